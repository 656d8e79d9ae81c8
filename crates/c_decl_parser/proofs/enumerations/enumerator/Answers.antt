use Rattle.std.proofs.Common.{◌-◌, None, Some, sym, ap, ◌∙◌, arith}
use Rattle.tm_trees.specs.DeclarationTrees.{optional_tree}
use Rattle.c_decl_parser.specs.reading.Parts.{seen}
use Rattle.c_decl_parser.proofs.SpecifierSteps.{enumerator_is}
use Rattle.c_decl_parser.proofs.enumerations.enumerator.Goals as goal

pub returns-in-Stuck : goal.returns-in-Stuck
returns-in-Stuck c =
    sym (enumerator_is c.args.types.now c.args.allowed (c.args.allowed - 1) c.args.tokens.now c.in-Some.name c.in-Some.place c.in-Some.next.now None (omega arith) (sym c.in-Some.ensures) (sym c.in_ok-at-in-Some.ensures ∙ ap (seen optional_tree) c.in-Stuck.is))

pub returns-in-Found : goal.returns-in-Found
returns-in-Found c =
    sym (enumerator_is c.args.types.now c.args.allowed (c.args.allowed - 1) c.args.tokens.now c.in-Some.name c.in-Some.place c.in-Some.next.now (Some (optional_tree c.in-Found.value, c.in-Found.rest.now)) (omega arith) (sym c.in-Some.ensures) (sym c.in_ok-at-in-Some.ensures ∙ ap (seen optional_tree) c.in-Found.is))
