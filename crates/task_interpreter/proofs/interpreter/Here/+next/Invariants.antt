use Rattle.std.proofs.Common.{◌≡◌, ◌+◌, ◌-◌, ◌≤◌, drop, map, option_copied}
use Rattle.std.specs.Prelude.{option_map}
use Rattle.tm_typed.specs.TypedTrees.{rvalue_tree, lvalue_tree}
use Rattle.tm_typed.specs.TypedStatements.{given_tree, local_tree, typed_tree, typed_case}
use Rattle.tm_laid.specs.Layouts.{laid_tree}
use Rattle.concrete_values.specs.Values.{nothing}
use Rattle.task_interpreter.specs.reading.Direct.{gave, left_at, loop_over, turn_ran, statement_ran, cells_ran, passed_ran}
use Rattle.task_interpreter.specs.reading.Sizes.{rvalue_size, lvalue_size, optional_size, given_size, initialiser_size, statement_size, case_size, below_calls}
use Rattle.task_interpreter.specs.reading.Lists.{leading_ran, leading_size, values_at, declared_ran, declared_size, listed_ran, listed_size, parts_ran, parts_size}
use Rattle.task_interpreter.specs.reading.Seats.{seat_of}
use Rattle.task_interpreter.proofs.interpreter.Here.+next.Given as goal

abbrev pub decreases-value : goal.decreases-value
decreases-value l = below_calls (laid_tree l.self.laid.now) l.self.depth + (rvalue_size (rvalue_tree l.e.now) + 1)

abbrev pub decreases-operated : goal.decreases-operated
decreases-operated l = below_calls (laid_tree l.self.laid.now) l.self.depth + rvalue_size (rvalue_tree l.e.now)

abbrev pub decreases-chosen : goal.decreases-chosen
decreases-chosen l = below_calls (laid_tree l.self.laid.now) l.self.depth + rvalue_size (rvalue_tree l.e.now)

abbrev pub decreases-assigned : goal.decreases-assigned
decreases-assigned l = below_calls (laid_tree l.self.laid.now) l.self.depth + rvalue_size (rvalue_tree l.e.now)

abbrev pub decreases-condition : goal.decreases-condition
decreases-condition l = below_calls (laid_tree l.self.laid.now) l.self.depth + (rvalue_size (rvalue_tree l.e.now) + 2)

abbrev pub decreases-truth : goal.decreases-truth
decreases-truth l = below_calls (laid_tree l.self.laid.now) l.self.depth + (rvalue_size (rvalue_tree l.e.now) + 3)

abbrev pub decreases-loaded : goal.decreases-loaded
decreases-loaded l = below_calls (laid_tree l.self.laid.now) l.self.depth + (lvalue_size (lvalue_tree l.target.now) + 1)

abbrev pub decreases-address : goal.decreases-address
decreases-address l = below_calls (laid_tree l.self.laid.now) l.self.depth + lvalue_size (lvalue_tree l.lvalue.now)

abbrev pub decreases-leading : goal.decreases-leading
decreases-leading l = below_calls (laid_tree l.self.laid.now) l.self.depth + (leading_size l.arguments.now + 2)

abbrev pub decreases-argument_stored : goal.decreases-argument_stored
decreases-argument_stored l = below_calls (laid_tree l.self.laid.now) l.self.depth + (leading_size l.arguments.now + 3)

abbrev pub decreases-passed : goal.decreases-passed
decreases-passed l = below_calls (laid_tree l.self.laid.now) l.self.depth + (leading_size l.arguments.now + 4)

abbrev pub decreases-called : goal.decreases-called
decreases-called l = below_calls (laid_tree l.self.laid.now) l.self.depth + (leading_size l.arguments.now + 5)

abbrev pub decreases-body : goal.decreases-body
decreases-body l = below_calls (laid_tree l.self.laid.now) l.self.depth

abbrev pub decreases-optional : goal.decreases-optional
decreases-optional l = below_calls (laid_tree l.self.laid.now) l.self.depth + optional_size (option_map rvalue_tree (option_copied l.e))

abbrev pub decreases-tested : goal.decreases-tested
decreases-tested l = below_calls (laid_tree l.self.laid.now) l.self.depth + optional_size (option_map rvalue_tree (option_copied l.e))

abbrev pub decreases-cell_value : goal.decreases-cell_value
decreases-cell_value l = below_calls (laid_tree l.self.laid.now) l.self.depth + (given_size (map given_tree l.given.now) + 2)

abbrev pub decreases-cell_set : goal.decreases-cell_set
decreases-cell_set l = below_calls (laid_tree l.self.laid.now) l.self.depth + (given_size (map given_tree l.given.now) + 3)

abbrev pub decreases-cells : goal.decreases-cells
decreases-cells l = below_calls (laid_tree l.self.laid.now) l.self.depth + (given_size (map given_tree l.given.now) + 4)

abbrev pub decreases-local : goal.decreases-local
decreases-local l = below_calls (laid_tree l.self.laid.now) l.self.depth + initialiser_size (local_tree l.local.now).initialiser

abbrev pub decreases-locals : goal.decreases-locals
decreases-locals l = below_calls (laid_tree l.self.laid.now) l.self.depth + (declared_size l.locals.now + 1)

abbrev pub decreases-block : goal.decreases-block
decreases-block l = below_calls (laid_tree l.self.laid.now) l.self.depth + (listed_size l.statements.now + 2)

abbrev pub decreases-switch_part : goal.decreases-switch_part
decreases-switch_part l = below_calls (laid_tree l.self.laid.now) l.self.depth + case_size (typed_case l.part.now)

abbrev pub decreases-switch_parts : goal.decreases-switch_parts
decreases-switch_parts l = below_calls (laid_tree l.self.laid.now) l.self.depth + (parts_size l.parts.now + 1)

abbrev pub decreases-statement : goal.decreases-statement
decreases-statement l = below_calls (laid_tree l.self.laid.now) l.self.depth + (statement_size (typed_tree l.statement.now) + 1)

abbrev pub decreases-controlled : goal.decreases-controlled
decreases-controlled l = below_calls (laid_tree l.self.laid.now) l.self.depth + statement_size (typed_tree l.statement.now)

abbrev pub decreases-turns : goal.decreases-turns
decreases-turns l = below_calls (laid_tree l.self.laid.now) l.self.depth + (optional_size (option_map rvalue_tree (option_copied l.before)) + statement_size (typed_tree l.body.now) + optional_size (option_map rvalue_tree (option_copied l.step)) + optional_size (option_map rvalue_tree (option_copied l.behind)) + 8)

abbrev pub decreases-turn : goal.decreases-turn
decreases-turn l = below_calls (laid_tree l.self.laid.now) l.self.depth + (optional_size (option_map rvalue_tree (option_copied l.before)) + statement_size (typed_tree l.body.now) + optional_size (option_map rvalue_tree (option_copied l.step)) + optional_size (option_map rvalue_tree (option_copied l.behind)) + 7)

abbrev pub decreases-turn_end : goal.decreases-turn_end
decreases-turn_end l = below_calls (laid_tree l.self.laid.now) l.self.depth + (optional_size (option_map rvalue_tree (option_copied l.step)) + optional_size (option_map rvalue_tree (option_copied l.behind)) + 2)

abbrev pub invariant-leading-arguments : goal.invariant-leading-arguments
invariant-leading-arguments l =
    leading_ran (seat_of l.self) (drop l.argument-index l.arguments) l.reached ≡ leading_ran (seat_of l.self) l.arguments (gave nothing l.at)

abbrev pub invariant-passed-arguments : goal.invariant-passed-arguments
invariant-passed-arguments l =
    passed_ran (laid_tree l.self.laid.now) l.self.answers.now l.path l.number (drop l.number (values_at (seat_of l.self) l.arguments l.before)) l.place l.reached
    ≡ passed_ran (laid_tree l.self.laid.now) l.self.answers.now l.path 0 (values_at (seat_of l.self) l.arguments l.before) l.place l.at

abbrev pub invariant-cells-cells : goal.invariant-cells-cells
invariant-cells-cells l =
    (cells_ran (seat_of l.self) l.object l.place (l.count - l.cell) l.cell (map given_tree l.rest) l.reached
    ≡ cells_ran (seat_of l.self) l.object l.place l.count 0 (map given_tree l.given) l.at)
    × (given_size (map given_tree l.rest) ≤ given_size (map given_tree l.given))

abbrev pub invariant-locals-locals : goal.invariant-locals-locals
invariant-locals-locals l = declared_ran (seat_of l.self) (drop l.local-index l.locals) l.reached ≡ declared_ran (seat_of l.self) l.locals l.at

abbrev pub invariant-block-statements : goal.invariant-block-statements
invariant-block-statements l = listed_ran (seat_of l.self) (drop l.statement-index l.statements) l.reached ≡ listed_ran (seat_of l.self) l.statements l.at

abbrev pub invariant-switch_parts-parts : goal.invariant-switch_parts-parts
invariant-switch_parts-parts l = parts_ran (seat_of l.self) (drop l.part-index l.parts) l.reached ≡ parts_ran (seat_of l.self) l.parts l.at

abbrev pub invariant-turns-turns : goal.invariant-turns-turns
invariant-turns-turns l =
    let turn = turn_ran (seat_of l.self) (option_map rvalue_tree (option_copied l.before)) (statement_ran (seat_of l.self) (typed_tree l.body))
    (option_map rvalue_tree (option_copied l.step)) (option_map rvalue_tree (option_copied l.behind)) in
    loop_over l.self.answers.now turn l.head ≡ loop_over l.self.answers.now turn l.at

abbrev pub decreases-turns-turns : goal.decreases-turns-turns
decreases-turns-turns l = left_at l.self.answers.now l.head
