use Rattle.std.proofs.Common.{◌≡◌, List, Option, map, IfOk, sym, ap, ◌∙◌, subst}
use Rattle.tm_terms.specs.declared.tokens.Token.{Token}
use Rattle.tm_terms.specs.ExprSpelling.{is_type_name_list}
use Rattle.tm_trees.specs.DeclarationTrees.{specifier_tree, count_as, as_specifiers}
use Rattle.tm_trees.specs.FileTrees.{ParameterTree, parameter_tree}
use Rattle.c_decl_parser.specs.reading.Parts.{seen}
use Rattle.c_parser.proofs.FileSteps.{parameter_unlisted, parameter_listed}
use Rattle.c_parser.proofs.parameters.parameter_after.Goals as goal

pub returns-then-named : goal.returns-then-named
returns-then-named c =
    let named = ap (λ l. is_type_name_list (count_as (as_specifiers (map specifier_tree l)))) (sym c.deref.ensures.value) ∙ sym c.in_ok-named.ensures ∙ c.if-named.true in
    subst (λ (w : Option (ParameterTree × List Token)). IfOk c.parameter_behind.result (λ read. seen parameter_tree read ≡ w))
    (sym (parameter_listed c.args.types.now c.args.allowed (map specifier_tree c.args.specifiers.items) c.args.tokens.now c.in_ok-pointers.pointers.items c.in_ok-pointers.behind.now named c.in_ok-pointers.ensures))
    c.parameter_behind.ensures

pub returns : goal.returns
returns c =
    let named = ap (λ l. is_type_name_list (count_as (as_specifiers (map specifier_tree l)))) (sym c.deref.ensures.value) ∙ sym c.in_ok-named.ensures ∙ c.if-named.false in
    sym (parameter_unlisted c.args.types.now c.args.allowed (map specifier_tree c.args.specifiers.items) c.args.tokens.now named)
