-- The table of an assignment, node by node and cell by cell.
use Rattle.std.specs.Prelude.{◌≡◌, ℕ, ◌<◌, true, false, List, length, slice_index_or, Option, Some, None}
use Rattle.std.specs.Prelude.{IfSome, MatchOption}
use Rattle.std.specs.FinMap.{get, insert}
use Rattle.table_covers.specs.tm_lattice.Tables.{Table}
use Rattle.table_covers.specs.Systems.{from_of, to_of}
use Rattle.sparse_tables.specs.Sparse.{Placing}
use Rattle.sparse_tables.specs.Fronts.{Fronts, IsThere, IsStateAt, IsStandingAt}
use Rattle.sparse_rows.specs.StateParts.{states}
use Rattle.sparse_rows.specs.Traces.{IsTraced, IsFreshAt, IsPendingAt}
use Rattle.cell_placings.specs.declared.cell_graphs.CellGraph.{CellGraph}
use Rattle.cell_placings.specs.CellLists.{is_in}
use Rattle.edge_actions.specs.transfer_rows.StateForms.{Temp, Cell, State}
use Rattle.task_equations.specs.Bodies.{Body}
use Rattle.task_equations.specs.Premises.{FitsBody}
use Rattle.front_constraints.specs.least_assignments.Constraints.{Assignment}
use Rattle.front_constraints.specs.declared.standings.Standing.{Standing}
use Rattle.front_constraints.specs.Rules.{fronts_of}
use Rattle.row_checks.specs.TracedCells.{may_copy, may_be_fresh, may_pend}
use Rattle.body_systems.specs.Systems.{body_of, system_of}
use Rattle.body_fronts.specs.FrontForms.{is_seen}
use Rattle.body_slots.specs.Placed.{seen_placing}
use Rattle.body_slots.specs.Slots.{Slots, SlotSystemOf, sparse_of, carrying_parts}

-- an edge leads to the node from this one, which is before it
pub record IsEarlier (graph : CellGraph) (n m : ℕ) : Type 0 where
  pub before : m < n
  pub edge : ℕ
  pub within : edge < length graph.links.items
  pub from : from_of graph.links.items edge ≡ m
  pub to : to_of graph.links.items edge ≡ n

-- what a table has at a node, if one is given
abbrev pub state_before : List (Option State) → Option ℕ → Option State
state_before table None = None
state_before table (Some n) = slice_index_or table n None

module _ (v : SlotSystemOf) where
  abbrev b : Body
  b = body_of v.system

  abbrev s : Slots
  s = v.slots

  abbrev pub place : Placing
  place = seen_placing (is_seen b) s.graph s.tree

  -- the state has only such copies, fresh cells and pending mutexes as there may be
  abbrev pub IsStateTraced : State → Type 0
  IsStateTraced t = IsTraced (may_copy s.traces) (may_be_fresh s.traces) (may_pend s.traces) t

  -- and so has what stands at a cell
  pub record IsCellTraced (x : ℕ) (y : Option Cell) : Type 0 where
    pub aged : IsFreshAt (may_copy s.traces) (may_be_fresh s.traces) (may_pend s.traces) x y
    pub held : IsPendingAt (may_copy s.traces) (may_be_fresh s.traces) (may_pend s.traces) x y

  module _ (a : Assignment (Standing (Table Temp) Cell)) where
    -- the fronts and slots of the assignment
    abbrev pub stood : Fronts (Table Temp) Cell
    stood = fronts_of (sparse_of v) a

    -- what stands at a cell where it is kept for a node
    abbrev pub kept_cell : ℕ → ℕ → Option Cell
    kept_cell n x = (let f = stood in f.slot_of (place.kept_at n x) x)

    -- The cells are what stands where they are kept for the node, but for the rest, which is still to be put; those
    -- that the body does not see are not there, and each is what it may be.
    pub record AreKept (n : ℕ) (rest : List ℕ) (cells : Table Cell) : Type 0 where
      pub given : (x : ℕ) → is_in rest x ≡ false → get cells x ≡ kept_cell n x
      pub there : (x : ℕ) → is_in rest x ≡ false → is_seen b x ≡ true → IsThere (get cells x)
      pub unseen : (x : ℕ) → is_seen b x ≡ false → get cells x ≡ None
      pub traced : (x : ℕ) → IsCellTraced x (get cells x)

    -- what stands at the cell where it is kept was put there, or nothing was where the body does not see the cell
    abbrev pub IsPut : ℕ → ℕ → Table Cell → Table Cell → Type 0
    IsPut n x old new = MatchOption (kept_cell n x) ((is_seen b x ≡ false) × (new ≡ old))
        (λ c. (new ≡ insert old x c) × IsCellTraced x (Some c))

    -- the state is that of the node
    abbrev pub IsNodeState : ℕ → State → Type 0
    IsNodeState n t = IsStateAt states (FitsBody b) (system_of v.system) (carrying_parts v) place (is_seen b) stood n t

    -- the state is that of a node before it from which an edge comes
    pub record IsBefore (n : ℕ) (t : State) : Type 0 where
      pub node : ℕ
      pub earlier : IsEarlier s.graph n node
      pub state : IsNodeState node t
      pub traced : IsStateTraced t

    -- what the table has at the node
    pub record IsMadeAt (n : ℕ) (y : Option State) : Type 0 where
      pub state : IsStandingAt states (FitsBody b) (system_of v.system) (carrying_parts v) place (is_seen b) stood n y
      pub traced : IfSome y IsStateTraced
