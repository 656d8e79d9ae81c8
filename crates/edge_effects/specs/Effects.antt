-- What the code of an edge gives.
use Rattle.std.specs.Prelude.{◌≡◌, ◌↔◌, IsTrue}
use Rattle.tm_typed.specs.tm_cint.declared.Class.{Class}
use Rattle.transfer_int.specs.Outcomes.{notes}
use Rattle.interfere_set.specs.Stores.{Interferences}
use Rattle.calculations.specs.transfer_rows.StateForms.{State}
use Rattle.calculations.specs.transfer_rows.Actions.{Around, Action}
use Rattle.calculations.specs.transfer_rows.Rows.{after}
use Rattle.calculations.specs.transfer_rows.Contributions.{added}
use Rattle.calculations.specs.transfer_rows.Reports.{targets_of, IsListed}
use Rattle.edge_effects.specs.declared.views.After.{After}

-- the state after the action, what it adds to the store, the abstract cells that it reaches, and exactly the classes of
-- errors that are not excluded
pub record IsAfter (around : Around) (action : Action) (s : State) (store : Interferences) (given : After) : Type 0 where
  pub state : given.state ≡ after around action s store
  pub added : given.added ≡ added around action s
  pub targets : given.targets.items ≡ targets_of action s
  pub classes : (class : Class) → IsTrue (notes given.classes class) ↔ IsListed around action s class
