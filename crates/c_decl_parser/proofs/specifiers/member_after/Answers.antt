use Rattle.std.proofs.Common.{◌≡◌, List, Option, map, IfOk, sym, ap, ◌∙◌, subst}
use Rattle.tm_terms.specs.declared.tokens.Token.{Token}
use Rattle.tm_terms.specs.ExprSpelling.{is_type_name_list}
use Rattle.tm_trees.specs.DeclarationTrees.{SpecifierTrees, DeclaratorTree, specifier_tree, member_tree, count_as, as_specifiers}
use Rattle.c_decl_parser.specs.reading.Parts.{seen}
use Rattle.c_decl_parser.proofs.SpecifierSteps.{member_named, member_unnamed}
use Rattle.c_decl_parser.proofs.specifiers.member_after.Goals as goal

pub returns-then-named : goal.returns-then-named
returns-then-named c =
    let named = ap (λ l. is_type_name_list (count_as (as_specifiers (map specifier_tree l)))) (sym c.deref.ensures.value) ∙ sym c.in_ok-named.ensures ∙ c.if-named.true in
    subst (λ (w : Option ((SpecifierTrees × List DeclaratorTree) × List Token)). IfOk c.declared_members.result (λ read. seen member_tree read ≡ w)) (member_named c.args.types.now c.args.allowed (map specifier_tree c.args.specifiers.items) c.args.tokens.now named) c.declared_members.ensures

pub returns : goal.returns
returns c =
    let named = ap (λ l. is_type_name_list (count_as (as_specifiers (map specifier_tree l)))) (sym c.deref.ensures.value) ∙ sym c.in_ok-named.ensures ∙ c.if-named.false in
    member_unnamed c.args.types.now c.args.allowed (map specifier_tree c.args.specifiers.items) c.args.tokens.now named
