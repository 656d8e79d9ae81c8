use Rattle.std.proofs.Common.{◌+◌, List, [], ◌∷◌, ◌++◌, ap, ◌∙◌, arith}
use Rattle.tm_terms.specs.declared.types_named.Spec.{Spec}
use Rattle.c_decl_parser.proofs.SpecifierSteps.{counts_next, counts_end}
use Rattle.c_decl_parser.proofs.specifiers.counted.Goals as goal

pub loop-specifier-preserved : goal.loop-specifier-preserved
loop-specifier-preserved c =
    let one : Spec → List Spec = λ s. c.loop-specifier.specs.items ++ s ∷ [] in
    counts_next c.loop-specifier.specs.items c.push.new.items.items c.args.specifiers.now c.loop-specifier.specifier-index (c.loop-specifier.specifier-index + 1) c.specifier-item.result c.loop-specifier-test.true (omega arith) c.specifier-item.is
    (c.in_ok-push.ensures ∙ ap one c.counts_as.ensures) c.loop-specifier.invariant

pub returns : goal.returns
returns c = counts_end c.loop-specifier.specs.items c.args.specifiers.now c.loop-specifier.specifier-index c.loop-specifier-test.false c.loop-specifier.invariant
