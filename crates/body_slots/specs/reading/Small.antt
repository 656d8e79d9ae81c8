-- What code finds of the state to which a row is applied.
use Rattle.std.specs.Prelude.{◌≡◌, ◌⊎◌, ℕ, zero, suc, ◌<◌, true, List, length, slice_index_or, Option, Some, is_some}
use Rattle.std.specs.FinMap.{get}
use Rattle.table_covers.specs.tm_lattice.Tables.{Table}
use Rattle.edge_actions.specs.transfer_rows.StateForms.{Temp, Cell, State}
use Rattle.sparse_rows.specs.Looked.{Agree}
use Rattle.sparse_rows.specs.Traces.{AreCopies}
use Rattle.row_checks.specs.TracedCells.{may_copy, may_be_fresh, may_pend}
use Rattle.front_constraints.specs.Rules.{seen_at, small_at}
use Rattle.body_fronts.specs.BodySystems.{with_entry}
use Rattle.body_slots.specs.Slots.{SlotSystemOf, sparse_of}
use Rattle.body_slots.specs.Rows.{Values}

module _ {V : Type 0} (f : ℕ → Option V) where
  -- the table with what there is at the first keys of a list put over it
  abbrev pub put_over : Table V → List ℕ → ℕ → Table V
  put_over t ks zero = t
  put_over t ks (suc i) = with_entry (put_over t ks i) (slice_index_or ks i 0) (f (slice_index_or ks i 0))

  -- there is something at each of these
  abbrev pub AreThere : List ℕ → ℕ → Type 0
  AreThere ks i = (j : ℕ) → j < i → is_some (f (slice_index_or ks j 0)) ≡ true

-- what the temporaries are copies of is among that of which they may be copies
abbrev pub HasTraced : SlotSystemOf → Table Temp → Type 0
HasTraced v f = (let s = v.slots in
    (u : ℕ) → AreCopies (may_copy s.traces) (may_be_fresh s.traces) (may_pend s.traces) u (get f u))

module _ (v : SlotSystemOf) (e : ℕ) (a : Values) where
  -- at each cell at which the edge looks something stands, and the cells are these put over those before
  pub record IsSeenOver (before cells : Table Cell) : Type 0 where
    pub there : (let sys = sparse_of v in AreThere (seen_at sys e a) (sys.looked e) (length (sys.looked e)))
    pub over : (let sys = sparse_of v in
        cells ≡ put_over (seen_at sys e a) before (sys.looked e) (length (sys.looked e)))

  -- The state has the temporaries of the small one, and what that has at each cell at which the edge looks; it is the
  -- small one itself, or the temporaries are copies of no cells but those of which they may be.
  pub record IsPart (part : State) : Type 0 where
    pub whole : State
    pub small : small_at (sparse_of v) e a ≡ Some whole
    pub agree : (let sys = sparse_of v in Agree (sys.place.looks e) whole part)
    pub enough : (whole ≡ part) ⊎ HasTraced v part.temps
