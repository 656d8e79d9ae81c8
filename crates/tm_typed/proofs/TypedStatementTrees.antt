-- The trees of typed statements whose parts lie in vectors.
use Rattle.std.proofs.Common.{◌≡◌, refl, ap, ◌∙◌}
use Rattle.std.specs.declared.alloc.Global.{Global}
use Rattle.std.specs.declared.vec.Vec.{Vec}
use Rattle.std.specs.Prelude.{Box}
use Rattle.tm_trees.specs.tm_cint.declared.int_types.IntType.{IntType}
use Rattle.tm_typed.specs.declared.expressions.Rvalue.{Rvalue}
use Rattle.tm_typed.specs.declared.statements.TypedSwitchPart.{TypedSwitchPart}
use Rattle.tm_typed.specs.declared.statements.TypedStatement.{TypedStatement, Row_of-TypedStatement, end_of-TypedStatement, more_of-TypedStatement, Row_of-TypedSwitchPart, end_of-TypedSwitchPart, more_of-TypedSwitchPart}
use Rattle.tm_typed.specs.declared.statements.TypedStatement.TheVariants as Typed
use Rattle.tm_typed.specs.declared.statements.TypedStatement.TheBlock.{items-the_row-TypedStatement, items-the_row-TypedSwitchPart, hidden-the_row-TypedStatement-0, hidden-the_row-TypedSwitchPart-1, items_hidden-the_row-TypedStatement-0, items_hidden-the_row-TypedSwitchPart-1}
use Rattle.tm_typed.specs.TypedTrees.{rvalue_tree}
use Rattle.tm_typed.specs.TypedStatements.{typed_tree, runs_block, selects, and_statement, typed_trees_of, as_typed_trees, typed_case, and_typed_case, typed_cases_of, as_typed_cases}

statements_as_list : {m : _} (row : Row_of-TypedStatement m) → typed_trees_of row ≡ as_typed_trees (items-the_row-TypedStatement m row)
statements_as_list end_of-TypedStatement = refl
statements_as_list (more_of-TypedStatement s row) = ap (and_statement (typed_tree s)) (statements_as_list row)

cases_as_list : {m : _} (row : Row_of-TypedSwitchPart m) → typed_cases_of row ≡ as_typed_cases (items-the_row-TypedSwitchPart m row)
cases_as_list end_of-TypedSwitchPart = refl
cases_as_list (more_of-TypedSwitchPart part row) = ap (and_typed_case (typed_case part)) (cases_as_list row)

pub typed_tree-block : (items : Vec TypedStatement Global) → typed_tree (Typed.Block items) ≡ runs_block (as_typed_trees items.items)
typed_tree-block items = ap runs_block (statements_as_list (hidden-the_row-TypedStatement-0 items) ∙ ap as_typed_trees (items_hidden-the_row-TypedStatement-0 items))

pub typed_tree-switch : (t : IntType) (e : Box Rvalue Global) (items : Vec TypedSwitchPart Global) → typed_tree (Typed.Switch t e items) ≡ selects t (rvalue_tree e.value) (as_typed_cases items.items)
typed_tree-switch t e items = ap (selects t (rvalue_tree e.value)) (cases_as_list (hidden-the_row-TypedSwitchPart-1 items) ∙ ap as_typed_cases (items_hidden-the_row-TypedSwitchPart-1 items))
