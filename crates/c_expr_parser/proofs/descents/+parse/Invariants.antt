use Rattle.std.proofs.Common.{◌≡◌, ◌≤◌, ◌+◌, ◌-◌, ◌*◌, suc}
use Rattle.tm_terms.specs.ExprTrees.{tree_of, no_arguments, as_arguments, arguments_height}
use Rattle.c_expr_parser.specs.reading.Descent.{arguments_from, steps, reads}
use Rattle.c_expr_parser.proofs.descents.+parse.Given as goal

abbrev pub decreases-arguments : goal.decreases-arguments
decreases-arguments l = 8 * l.allowed + 3

abbrev pub decreases-arguments_from : goal.decreases-arguments_from
decreases-arguments_from l = 8 * l.allowed + 1

abbrev pub decreases-called : goal.decreases-called
decreases-called l = 8 * l.allowed + 4

abbrev pub decreases-cast_form : goal.decreases-cast_form
decreases-cast_form l = 8 * l.allowed + 1

abbrev pub decreases-continue_infix : goal.decreases-continue_infix
decreases-continue_infix l = 8 * l.allowed + 1

abbrev pub decreases-continue_question : goal.decreases-continue_question
decreases-continue_question l = 8 * l.allowed + 1

abbrev pub decreases-continue_subscript : goal.decreases-continue_subscript
decreases-continue_subscript l = 8 * l.allowed + 1

abbrev pub decreases-continued : goal.decreases-continued
decreases-continued l = 8 * l.allowed + 4

abbrev pub decreases-form : goal.decreases-form
decreases-form l = 8 * l.allowed + 7

abbrev pub decreases-from_form : goal.decreases-from_form
decreases-from_form l = 8 * l.allowed + 7

abbrev pub decreases-input_form : goal.decreases-input_form
decreases-input_form l = 8 * l.allowed + 1

abbrev pub decreases-inside_form : goal.decreases-inside_form
decreases-inside_form l = 8 * l.allowed + 1

abbrev pub decreases-name_form : goal.decreases-name_form
decreases-name_form l = 8 * l.allowed + 5

abbrev pub decreases-prefix_form : goal.decreases-prefix_form
decreases-prefix_form l = 8 * l.allowed + 1

abbrev pub decreases-read : goal.decreases-read
decreases-read l = 8 * l.allowed

abbrev pub decreases-sign_form : goal.decreases-sign_form
decreases-sign_form l = 8 * l.allowed + 5

abbrev pub decreases-sizeof_form : goal.decreases-sizeof_form
decreases-sizeof_form l = 8 * l.allowed + 4

abbrev pub decreases-step : goal.decreases-step
decreases-step l = 8 * l.allowed + 5

abbrev pub decreases-steps : goal.decreases-steps
decreases-steps l = 8 * l.allowed + 6

abbrev pub decreases-word_form : goal.decreases-word_form
decreases-word_form l = 8 * l.allowed + 5

-- the rest of the reading gives what the whole gives
abbrev pub invariant-arguments_from-items : goal.invariant-arguments_from-items
invariant-arguments_from-items l = record {
  same : arguments_from (reads l.types l.allowed) (l.limit - l._i) (as_arguments l.items.items) l.rest ≡ arguments_from (reads l.types l.allowed) l.limit no_arguments l.tokens;
  counted : l.height ≡ arguments_height (as_arguments l.items.items);
  low : l.height ≤ l.allowed;
}

abbrev pub invariant-steps-operators : goal.invariant-steps-operators
invariant-steps-operators l = record {
  same : steps (reads l.types l.allowed) l.at l.allowed (l.limit - l._i) (tree_of l.found.expr.value) l.found.rest.now ≡ steps (reads l.types l.allowed) l.at l.allowed (suc l.allowed) (tree_of l.fn.first.expr.value) l.fn.first.rest.now;
  low : l.found.height ≤ l.allowed + 1;
}
