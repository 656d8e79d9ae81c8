-- The block of a `switch`, as the code reads it.
use Rattle.std.specs.Prelude.{Result, Ok}
use Rattle.tm_cint.specs.declared.int_types.IntType.{IntType}
use Rattle.tm_terms.specs.declared.refusals.Refusal.{Refusal}
use Rattle.tm_trees.specs.FileTrees.{CaseTrees}
use Rattle.tm_typed.specs.States.{State}
use Rattle.tm_typed.specs.Refusals.{then_with}
use Rattle.tm_typed.specs.TypedStatements.{TypedCases}
use Rattle.tm_typed.specs.StatementRules.{Around, no_labels}
use Rattle.tm_typed.specs.StatementTyping.{enter, leave, cases_in}

-- its parts in a scope of their own
abbrev pub block_cases : State → Around → IntType → CaseTrees → Result (TypedCases × State) Refusal
block_cases s around t cases = then_with (cases_in (enter s) around t no_labels cases) (λ b. Ok (b.0, leave s b.1))
