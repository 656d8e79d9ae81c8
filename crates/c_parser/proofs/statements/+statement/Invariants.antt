use Rattle.std.proofs.Common.{◌≡◌, ◌+◌, ◌-◌, ◌*◌, [], map}
use Rattle.tm_trees.specs.FileTrees.{part_tree, case_tree}
use Rattle.c_decl_parser.specs.reading.Repetitions.{until_brace}
use Rattle.c_parser.specs.reading.FileDescent.{part, case_part, statement}
use Rattle.c_parser.proofs.statements.+statement.Given as goal

abbrev pub decreases-block_form : goal.decreases-block_form
decreases-block_form l = 8 * l.allowed + 2

abbrev pub decreases-case_part : goal.decreases-case_part
decreases-case_part l = 8 * l.allowed + 3

abbrev pub decreases-case_step : goal.decreases-case_step
decreases-case_step l = 8 * l.allowed + 1

abbrev pub decreases-case_word : goal.decreases-case_word
decreases-case_word l = 8 * l.allowed + 2

abbrev pub decreases-cases : goal.decreases-cases
decreases-cases l = 8 * l.allowed + 4

abbrev pub decreases-do_form : goal.decreases-do_form
decreases-do_form l = 8 * l.allowed + 1

abbrev pub decreases-else_form : goal.decreases-else_form
decreases-else_form l = 8 * l.allowed + 1

abbrev pub decreases-for_form : goal.decreases-for_form
decreases-for_form l = 8 * l.allowed + 1

abbrev pub decreases-if_form : goal.decreases-if_form
decreases-if_form l = 8 * l.allowed + 2

abbrev pub decreases-inside : goal.decreases-inside
decreases-inside l = 8 * l.allowed + 1

abbrev pub decreases-part : goal.decreases-part
decreases-part l = 8 * l.allowed + 1

abbrev pub decreases-parts : goal.decreases-parts
decreases-parts l = 8 * l.allowed + 2

abbrev pub decreases-sign_form : goal.decreases-sign_form
decreases-sign_form l = 8 * l.allowed + 3

abbrev pub decreases-statement : goal.decreases-statement
decreases-statement l = 8 * l.allowed

abbrev pub decreases-statement_within : goal.decreases-statement_within
decreases-statement_within l = 8 * l.allowed + 7

abbrev pub decreases-switch_form : goal.decreases-switch_form
decreases-switch_form l = 8 * l.allowed + 5

abbrev pub decreases-while_form : goal.decreases-while_form
decreases-while_form l = 8 * l.allowed + 1

abbrev pub decreases-word_form : goal.decreases-word_form
decreases-word_form l = 8 * l.allowed + 6

-- the rest of the reading gives what the whole gives
abbrev pub invariant-cases-cases : goal.invariant-cases-cases
invariant-cases-cases l =
    until_brace (case_part l.types l.allowed (statement l.types l.allowed)) (l.limit - l._i) (map case_tree l.found.items) l.rest ≡ until_brace (case_part l.types l.allowed (statement l.types l.allowed)) l.limit [] l.tokens

-- the rest of the reading gives what the whole gives
abbrev pub invariant-parts-parts : goal.invariant-parts-parts
invariant-parts-parts l =
    until_brace (part l.types l.allowed (statement l.types l.allowed)) (l.limit - l._i) (map part_tree l.found.items) l.rest ≡ until_brace (part l.types l.allowed (statement l.types l.allowed)) l.limit [] l.tokens
