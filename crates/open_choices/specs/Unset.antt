-- UNSET: values that were never stored (C99 6.3.2.1p2), and functions that end without a value that is used
-- (6.9.1p12).
--
-- In
--     int r, c;
--     __task(1) void t(void) { int n; if (c) n = 1; r = n; }
-- the load at 2:51 is listed, for the cell of n is not stored on the way past the `if`.
use Rattle.std.specs.Prelude.{◌≡◌, ℕ, false, Contains, Some}
use Rattle.std.specs.FinMap.{get}
use Rattle.tm_terms.specs.declared.places.Place.{Place}
use Rattle.tm_laid.specs.Layouts.{abstract_at, is_shared}
use Rattle.flow_graph.specs.declared.operations.Operation.TheVariants as Op
use Rattle.post_recheck.specs.transfer_rows.StateForms.{State}
use Rattle.post_recheck.specs.transfer_rows.Rows.{is_stored}
use Rattle.path_origins.specs.declared.origins.Life.{Life}
use Rattle.path_origins.specs.declared.origins.Span.{Span}
use Rattle.edge_origins.specs.declared.origins.Fall.{Fall}
use Rattle.operand_orders.specs.Reached.{SolvedBody, IsWithin, HasState, IsReached, targets}

-- a life has no initialiser, or the edge is one of it
abbrev pub IsUninitialised : ℕ → Life → Type 0
IsUninitialised edge life = (span : Span) → life.initialiser ≡ Some span → IsWithin edge span

module _ (b : SolvedBody) where
  -- a load in a state finds a local cell that was not stored
  pub record FindsUnset (edge : ℕ) (s : State) (cell : ℕ) : Type 0 where
    pub local : (let a = abstract_at b.laid cell in is_shared b.laid a.object ≡ false)
    pub unset : is_stored (get s.cells cell) ≡ false
    pub uninitialised : (life : Life) → (let o = b.origins in Contains o.lives.items life)
        → (let a = abstract_at b.laid cell in life.object ≡ a.object) → IsUninitialised edge life

  pub data IsUnset (place : Place) : Type 0 where
    a_load : {edge to address : ℕ} {scalar : _} (s : State) (cell : ℕ)
        → HasState b edge (Op.Load to address scalar place) s
        → Contains (targets b scalar address s) cell → FindsUnset edge s cell → IsUnset place
    a_volatile_load : {edge to address : ℕ} {scalar : _} (s : State) (cell : ℕ)
        → HasState b edge (Op.LoadAny to address scalar place) s
        → Contains (targets b scalar address s) cell → FindsUnset edge s cell → IsUnset place
    an_end : (fall : Fall) → (let o = b.origins in Contains o.falls.items fall) → fall.place ≡ place
        → IsReached b fall.edge → IsUnset place
