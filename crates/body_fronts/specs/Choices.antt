-- What is left to show of what code chooses for a body, and what it checks of edges and fronts.
use Rattle.std.specs.Prelude.{◌≡◌, ℕ, ◌<◌, Bool, true, false, Option}
use Rattle.std.specs.FinMap.{get}
use Rattle.sparse_bodies.specs.task_equations.table_covers.tm_lattice.Tables.{Table}
use Rattle.sparse_bodies.specs.task_equations.state_fits.interfere_set.Stores.{Interferences}
use Rattle.sparse_bodies.specs.task_equations.state_fits.transfer_rows.StateForms.{Temp, State}
use Rattle.sparse_bodies.specs.task_equations.Bodies.{Body, copy_at}
use Rattle.sparse_bodies.specs.task_equations.Equations.{action_along, around_along, equations_of}
use Rattle.sparse_bodies.specs.task_equations.Premises.{FitsBody}
use Rattle.sparse_bodies.specs.sparse_tables.Sparse.{IsPlaced}
use Rattle.sparse_bodies.specs.Carries.{carry_along}
use Rattle.sparse_rows.specs.Checks.{IsChecked}
use Rattle.sparse_rows.specs.StateParts.{states, state_parts}
use Rattle.sparse_rows.specs.Traces.{AreCopies}
use Rattle.front_constraints.specs.Systems.{edges, AreNumbered, AreCellsListed}
use Rattle.body_fronts.specs.FrontForms.{is_seen}
use Rattle.body_fronts.specs.BodySystems.{Chosen, system_of}

-- Cells are well placed, those that the body does not see are owned everywhere, an edge looks at what it touches,
-- variables and constraints have numbers, the lists have the cells that they should, and the scratch state fits a node.
pub record IsChosen (b : Body) (entry : Option State) (store : Interferences) (chosen : Chosen) : Type 0 where
  pub node : ℕ
  pub scratch : FitsBody b node chosen.scratch
  pub placed : IsPlaced states (FitsBody b) (equations_of b entry store) (state_parts (carry_along b store))
      chosen.place
  pub beyond : (n x : ℕ) → is_seen b x ≡ false → chosen.place.owns n x ≡ true
  pub looked : (e x : ℕ) → e < edges (system_of b entry store chosen) → chosen.place.touches e x ≡ true
      → chosen.place.looks e x ≡ true
  pub numbered : AreNumbered (system_of b entry store chosen)
  pub listed : AreCellsListed (system_of b entry store chosen)

-- the copies of a front are among those that may be
abbrev pub HasTracedCopies : (ℕ → ℕ → Bool) → (ℕ → Bool) → (ℕ → ℕ) → ℕ → Table Temp → Type 0
HasTracedCopies copies fresh pending n f = (u : ℕ) → AreCopies copies fresh pending u (get f u)

-- the edge was checked in the state
abbrev pub ChecksEdge : Body → Interferences → Chosen → (ℕ → ℕ → Bool) → (ℕ → Bool) → (ℕ → ℕ) → ℕ → State → Type 0
ChecksEdge b store chosen copies fresh pending e d = IsChecked (around_along b (copy_at b e)) (chosen.place.touches e)
    (chosen.place.carries e) (chosen.place.looks e) copies fresh pending (action_along b (copy_at b e)) d store
