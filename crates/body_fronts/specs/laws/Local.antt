-- What was checked of a body's edge in one state says of each smaller one, whose copies are among those that may be, that
-- the edge looks nowhere but where it may.
use Rattle.std.specs.Prelude.{◌≡◌, ℕ, ◌<◌, Bool, true, Option, Some, None}
use Rattle.sparse_bodies.specs.task_equations.state_fits.interfere_set.Stores.{Interferences}
use Rattle.sparse_bodies.specs.task_equations.state_fits.transfer_rows.StateForms.{State}
use Rattle.sparse_bodies.specs.task_equations.state_fits.transfer_rows.Rows.{after}
use Rattle.sparse_bodies.specs.task_equations.Bodies.{Body, copy_at}
use Rattle.sparse_bodies.specs.task_equations.Equations.{action_along, around_along, led, equations_of}
use Rattle.sparse_bodies.specs.task_equations.Premises.{FitsBody}
use Rattle.sparse_bodies.specs.sparse_tables.Sparse.{AgreeOn, GiveAlike}
use Rattle.sparse_bodies.specs.Carries.{carry_along}
use Rattle.sparse_rows.specs.Looked.{Agree, Alike}
use Rattle.sparse_rows.specs.StateParts.{states, state_parts}
use Rattle.sparse_rows.specs.laws.Checked.{checked_looks}
use Rattle.sparse_rows.specs.laws.Local.{rows_local}
use Rattle.front_constraints.specs.Systems.{edges}
use Rattle.front_constraints.specs.Premises.{AreLocal}
use Rattle.body_fronts.specs.FrontForms.{fronts, cells, FitsFront, FitsCellAt}
use Rattle.body_fronts.specs.BodySystems.{Chosen, system_of}
use Rattle.body_fronts.specs.Choices.{HasTracedCopies, ChecksEdge}

module _ (b : Body) (entry : Option State) (store : Interferences) (chosen : Chosen) (copies : ℕ → ℕ → Bool)
    (fresh : ℕ → Bool) (pending : ℕ → ℕ) where
  abbrev touch : ℕ → ℕ → Bool
  touch e = chosen.place.touches e

  abbrev carries : ℕ → ℕ → Bool
  carries e = chosen.place.carries e

  abbrev look : ℕ → ℕ → Bool
  look e = chosen.place.looks e

  agreed : (e : ℕ) (s t : State)
      → AgreeOn states (FitsBody b) (equations_of b entry store) (state_parts (carry_along b store)) chosen.place e s t
      → Agree (look e) s t
  agreed e s t h = record { temps = h.front; cells = h.cells }

  alike : (e : ℕ) (s t : Option State) → Alike (look e) s t
      → GiveAlike states (FitsBody b) (equations_of b entry store) (state_parts (carry_along b store)) chosen.place e s
      t
  alike e None None h = tt
  alike e None (Some t) h = absurd h
  alike e (Some s) None h = absurd h
  alike e (Some s) (Some t) h = record { front = h.temps; cells = h.cells }

  led_alike : (e : ℕ) (to : Option ℕ) (s t : Option State) → Alike (look e) s t → Alike (look e) (led to s) (led to t)
  led_alike e None s t h = tt
  led_alike e (Some n) s t h = h

  pub bodies_are_local : ((e x : ℕ) → e < edges (system_of b entry store chosen) → touch e x ≡ true → look e x ≡ true)
      → AreLocal states fronts cells (FitsBody b) (FitsFront b) (FitsCellAt b) (system_of b entry store chosen)
      (HasTracedCopies copies fresh pending) (ChecksEdge b store chosen copies fresh pending)
  bodies_are_local looked = record {
    local = λ e s t d lt s-fits t-fits d-fits le copied checked agree.
        (let c = copy_at b e in
        alike e (led c.to (after (around_along b c) (action_along b c) s store))
        (led c.to (after (around_along b c) (action_along b c) t store))
        (led_alike e c.to (after (around_along b c) (action_along b c) s store)
        (after (around_along b c) (action_along b c) t store)
        (rows_local (around_along b c) (look e) (action_along b c) s t store
        (checked_looks (around_along b c) (touch e) (carries e) (look e) copies fresh pending s d s-fits.form
        d-fits.form le copied (λ x. looked e x lt) (action_along b c) store checked)
        (agreed e s t agree))));
  }
