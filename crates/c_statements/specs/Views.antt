-- What the code holds of statements, as plain records and trees.
use Rattle.std.specs.declared.alloc.Global.{Global}
use Rattle.std.specs.Prelude.{Box}
use Rattle.tm_typed.specs.declared.statements.TypedStatement.{TypedStatement}
use Rattle.tm_typed.specs.TypedTrees.{boxed_tree}
use Rattle.tm_typed.specs.declared.statements.TypedSwitchPart.{TypedSwitchPart}
use Rattle.tm_typed.specs.States.{State}
use Rattle.tm_typed.specs.TypedStatements.{TypedTree, TypedCase, typed_tree, typed_case}
use Rattle.tm_typed.specs.StatementRules.{Around as PlainAround, Labels, Selector as PlainSelector}
use Rattle.c_statements.specs.declared.rules.Around.{Around}
use Rattle.c_statements.specs.declared.rules.Selector.{Selector}

abbrev pub statement_in_box : Box TypedStatement Global → TypedTree
statement_in_box s = typed_tree s.value

abbrev pub around_of : Around → PlainAround
around_of a = record { result = a.result; in_loop = a.in_loop; in_switch = a.in_switch }

abbrev pub selector_of : Selector → PlainSelector
selector_of s = record { works_in = s.works_in; value = boxed_tree s.value }

-- a part of a `switch`, with the labels behind it
abbrev pub case_with : Labels → TypedSwitchPart → TypedCase × Labels
case_with labels c = (typed_case c, labels)

-- .. and with the state behind it
abbrev pub case_behind : Labels → State → TypedSwitchPart → TypedCase × Labels × State
case_behind labels s c = (typed_case c, labels, s)
