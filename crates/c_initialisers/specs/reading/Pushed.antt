-- Cells that are pushed behind others.
use Rattle.std.specs.Prelude.{List, Result, map}
use Rattle.tm_terms.specs.declared.refusals.Refusal.{Refusal}
use Rattle.tm_terms.specs.declared.refusals.Fail.{Fail}
use Rattle.tm_typed.specs.declared.statements.GivenCell.{GivenCell}
use Rattle.tm_typed.specs.States.{State}
use Rattle.tm_typed.specs.TypedStatements.{given_tree}
use Rattle.tm_typed.specs.Initialisers.{Given, given_behind}
use Rattle.c_typing_state.specs.Steps.{StepsTo}

-- a step that gives further cells; `s` is the state behind the call
abbrev pub Pushes : List GivenCell → List GivenCell → State → Result (Unit {0}) Fail → Result Given Refusal → Type 0
Pushes before behind s result want =
    StepsTo (λ u. map given_tree behind) s result (given_behind (map given_tree before) want)
