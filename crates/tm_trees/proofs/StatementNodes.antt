-- The trees of statements whose parts lie in vectors, and of `if` with and without `else`.
use Rattle.std.proofs.Common.{◌≡◌, map, refl, ap, ◌∙◌}
use Rattle.std.specs.declared.alloc.Global.{Global}
use Rattle.std.specs.declared.vec.Vec.{Vec}
use Rattle.tm_terms.specs.declared.exprs.Expr.{Expr}
use Rattle.tm_terms.specs.ExprTrees.{tree_of}
use Rattle.tm_trees.specs.declared.statements.Block.{Block}
use Rattle.tm_trees.specs.declared.statements.SwitchPart.{SwitchPart}
use Rattle.tm_trees.specs.declared.statements.Statement.{Row_of-BlockPart, end_of-BlockPart, more_of-BlockPart, Row_of-SwitchPart, end_of-SwitchPart, more_of-SwitchPart}
use Rattle.tm_trees.specs.declared.statements.Statement.TheVariants as Statements
use Rattle.tm_trees.specs.declared.statements.BlockPart.TheBlock.{items-the_row-BlockPart, items-the_row-SwitchPart, hidden-the_row-BlockPart-0, hidden-the_row-SwitchPart-1, items_hidden-the_row-BlockPart-0, items_hidden-the_row-SwitchPart-1}
use Rattle.tm_trees.specs.FileTrees.{statement_tree, a_block, a_switch, part_tree, and_part, parts_of, as_parts, case_tree, and_case, cases_of, as_cases, block_tree}

parts_as_list : {m : _} (row : Row_of-BlockPart m) → parts_of row ≡ as_parts (map part_tree (items-the_row-BlockPart m row))
parts_as_list end_of-BlockPart = refl
parts_as_list (more_of-BlockPart part row) = ap (and_part (part_tree part)) (parts_as_list row)

cases_as_list : {m : _} (row : Row_of-SwitchPart m) → cases_of row ≡ as_cases (map case_tree (items-the_row-SwitchPart m row))
cases_as_list end_of-SwitchPart = refl
cases_as_list (more_of-SwitchPart part row) = ap (and_case (case_tree part)) (cases_as_list row)

pub statement_tree-block : (b : Block) → statement_tree (Statements.Block b) ≡ a_block (block_tree b)
statement_tree-block b = ap a_block (parts_as_list (hidden-the_row-BlockPart-0 b.parts) ∙ ap (λ parts. as_parts (map part_tree parts)) (items_hidden-the_row-BlockPart-0 b.parts))

pub statement_tree-switch : (e : Expr) (parts : Vec SwitchPart Global) → statement_tree (Statements.Switch e parts) ≡ a_switch (tree_of e) (as_cases (map case_tree parts.items))
statement_tree-switch e parts = ap (a_switch (tree_of e)) (cases_as_list (hidden-the_row-SwitchPart-1 parts) ∙ ap (λ parts. as_cases (map case_tree parts)) (items_hidden-the_row-SwitchPart-1 parts))
