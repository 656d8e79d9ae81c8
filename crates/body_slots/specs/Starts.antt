-- What stands at the variables of a body over a store, from which what stands there over a later one is found.
use Rattle.std.specs.Prelude.{◌≡◌, ℕ, ◌≤◌, List, length, Option, Some}
use Rattle.interfere_set.specs.Stores.{Interferences, IsStoreBelow}
use Rattle.edge_actions.specs.transfer_rows.StateForms.{Temp, Cell, State}
use Rattle.table_covers.specs.tm_lattice.Tables.{Table}
use Rattle.task_equations.specs.state_fits.Fits.{FitsStore}
use Rattle.task_equations.specs.Bodies.{Body}
use Rattle.least_assignments.specs.Constraints.{at}
use Rattle.least_assignments.specs.Solutions.{IsLeast}
use Rattle.front_constraints.specs.Standings.{standings}
use Rattle.front_constraints.specs.Systems.{SparseSystem}
use Rattle.front_constraints.specs.Rules.{front_constraints, FitsVariable}
use Rattle.body_fronts.specs.FrontForms.{fronts, cells, FitsFront, FitsCellAt}
use Rattle.body_fronts.specs.BodySystems.{system_of}
use Rattle.body_slots.specs.Slots.{Slots, chosen_of}
use Rattle.body_slots.specs.Rows.{Stand}

-- the equations of a body over a store, which begins in a state or does not, with its slots; small states take what
-- stands in the last one at cells that do not count
abbrev pub slotted : Body → Option State → Interferences → Slots → State → SparseSystem State (Table Temp) Cell
slotted b entry store s begin = system_of b entry store (chosen_of b begin s)

-- The body begins, and this stands at its variables over the store: the least that is closed in its constraints,
-- wherever they may be applied.
pub record AreLeastValues (b : Body) (entry : Option State) (store : Interferences) (s : Slots)
    (values : List (Option Stand)) : Type 0 where
  pub begin : State
  pub begins : entry ≡ Some begin
  pub count : length values ≡ (front_constraints (slotted b entry store s begin)).variable_count
  pub least : IsLeast (standings fronts cells) (FitsVariable (slotted b entry store s begin) (FitsFront b) (FitsCellAt b))
      (λ k a. Unit {0}) (front_constraints (slotted b entry store s begin)) (at values)

-- It stood there over some store that lies below this one, and that fits the body.
pub record IsStartOf (b : Body) (entry : Option State) (store : Interferences) (s : Slots) (start : List (Option Stand))
    : Type 0 where
  pub before : Interferences
  pub tasks : ℕ
  pub fits : FitsStore b.laid tasks before
  pub writers : tasks ≤ length b.priorities
  pub below : IsStoreBelow before store
  pub values : AreLeastValues b entry before s start
