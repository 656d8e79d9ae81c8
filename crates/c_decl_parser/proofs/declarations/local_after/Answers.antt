use Rattle.std.proofs.Common.{◌≡◌, List, Option, map, IfOk, sym, ap, ◌∙◌, subst}
use Rattle.tm_terms.specs.declared.tokens.Token.{Token}
use Rattle.tm_terms.specs.ExprSpelling.{is_type_name_list}
use Rattle.tm_trees.specs.DeclarationTrees.{DeclarationTree, specifier_tree, declaration_tree, count_as, as_specifiers}
use Rattle.c_decl_parser.specs.reading.Parts.{seen}
use Rattle.c_decl_parser.proofs.DeclarationSteps.{local_named, local_unnamed}
use Rattle.c_decl_parser.proofs.declarations.local_after.Goals as goal

pub returns-then-named : goal.returns-then-named
returns-then-named c =
    let named = ap (λ l. is_type_name_list (count_as (as_specifiers (map specifier_tree l)))) (sym c.deref.ensures.value) ∙ sym c.in_ok-named.ensures ∙ c.if-named.true in
    subst (λ (w : Option (DeclarationTree × List Token)). IfOk c.declared.result (λ read. seen declaration_tree read ≡ w)) (local_named c.args.types.now c.args.allowed (map specifier_tree c.args.specifiers.items) c.args.tokens.now named) c.declared.ensures

pub returns : goal.returns
returns c =
    let named = ap (λ l. is_type_name_list (count_as (as_specifiers (map specifier_tree l)))) (sym c.deref.ensures.value) ∙ sym c.in_ok-named.ensures ∙ c.if-named.false in
    local_unnamed c.args.types.now c.args.allowed (map specifier_tree c.args.specifiers.items) c.args.tokens.now named
