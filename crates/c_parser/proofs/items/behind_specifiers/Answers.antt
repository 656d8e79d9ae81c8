use Rattle.std.proofs.Common.{◌≡◌, map, refl, sym, ap, ◌∙◌}
use Rattle.c_expr_parser.specs.declared.marks.Mark.TheVariants as Marks
use Rattle.c_expr_parser.specs.reading.Parts.{after}
use Rattle.tm_trees.specs.DeclarationTrees.{specifier_tree, count_as, as_specifiers}
use Rattle.tm_trees.specs.DeclarationSpelling.{is_file_list}
use Rattle.c_parser.proofs.FileSteps.{file_list_none, file_list_some}
use Rattle.c_parser.proofs.items.behind_specifiers.Goals as goal

pub returns-then-listed : goal.returns-then-listed
returns-then-listed c =
    let counted = c.in_ok-specs.ensures ∙ ap (λ l. count_as (as_specifiers (map specifier_tree l))) c.deref.ensures.value in
    let listed = ap is_file_list (sym counted) ∙ ap is_file_list (sym c.deref-3.ensures.value) ∙ sym c.is_file_list-listed.ensures ∙ c.if-listed.true in
    rw (file_list_some c.args.types.now c.args.allowed (map specifier_tree c.args.specifiers.items) c.args.tokens.now (after Marks.Semicolon c.args.tokens.now) listed refl) c.behind_list.ensures

pub returns : goal.returns
returns c =
    let counted = c.in_ok-specs.ensures ∙ ap (λ l. count_as (as_specifiers (map specifier_tree l))) c.deref.ensures.value in
    let listed = ap is_file_list (sym counted) ∙ ap is_file_list (sym c.deref-3.ensures.value) ∙ sym c.is_file_list-listed.ensures ∙ c.if-listed.false in
    sym (file_list_none c.args.types.now c.args.allowed (map specifier_tree c.args.specifiers.items) c.args.tokens.now listed)
