-- What edges touch, as the code tells it: tables of accesses, and marks of edges.
use Rattle.std.specs.Prelude.{◌≡◌, ◌≢◌, ◌↔◌, ◌⊎◌, ℕ, Bool, true, false, ◌||◌, List, Contains, Option, Some, None}
use Rattle.std.specs.Option.{is_some}
use Rattle.interfere_set.specs.Stores.{left_at}
use Rattle.tm_lattice.specs.Tables.{Table}
use Rattle.pointer_dom.specs.Values.{Values, no_value}
use Rattle.flow_graph.specs.declared.operations.Operation.{Operation}
use Rattle.flow_graph.specs.declared.operations.Operation.TheVariants as Op
use Rattle.post_recheck.specs.transfer_rows.StateForms.{State}
use Rattle.program_reports.specs.Reports.{place_of}
use Rattle.path_origins.specs.declared.origins.Span.{Span}
use Rattle.operand_orders.specs.declared.pairs.Pair.{Pair}
use Rattle.operand_orders.specs.declared.accesses.Accesses.{Accesses}
use Rattle.operand_orders.specs.declared.reached.Access.{Access}
use Rattle.operand_orders.specs.declared.touches.Touches.{Touches}
use Rattle.operand_orders.specs.declared.marks.Marks.{Marks}
use Rattle.operand_orders.specs.Reached.{SolvedBody, IsWithin, operation_at, HasState, IsStatic, targets, Loads, Stores}
use Rattle.operand_orders.specs.Order.{Waits, IsActing, IsInitialising, IsStoredByOthers}
use Rattle.operand_orders.specs.reading.Pairs.{pair, swapped, AreRising}
use Rattle.operand_orders.specs.reading.Marks.{IsMarked, AreMarks}
use Rattle.operand_orders.specs.reading.Views.{state_at}

-- ## Accesses of operations

-- the access of a load
unfoldable pub load_of : Operation → Option Access
load_of (Op.Load to address scalar place) = Some (record { address = address; scalar = scalar })
load_of (Op.LoadAny to address scalar place) = Some (record { address = address; scalar = scalar })
load_of operation = None

-- the access of a store
unfoldable pub store_of : Operation → Option Access
store_of (Op.Store address value scalar into place) = Some (record { address = address; scalar = scalar })
store_of operation = None

-- that of a store, or of a load
abbrev pub access_of : Bool → Operation → Option Access
access_of true operation = store_of operation
access_of false operation = load_of operation

-- it waits, or asks for a mutex
unfoldable pub is_waiting : Operation → Bool
is_waiting (Op.Lock mutex place) = true
is_waiting (Op.Unlock mutex place) = true
is_waiting Op.Yield = true
is_waiting (Op.Probe to mutex place) = true
is_waiting operation = false

-- an error or an access may stand there, or it waits
abbrev pub is_acting : Operation → Bool
is_acting operation = is_waiting operation || is_some (place_of operation)

module _ (b : SolvedBody) where
  -- ## What an edge reaches

  -- a copy reaches the cell in the state that it leaves
  pub record HasTarget (access : Access) (cell copy : ℕ) : Type 0 where
    pub state : State
    pub is : state_at b copy ≡ Some state
    pub target : Contains (targets b access.scalar access.address state) cell

  -- an edge does in one of its states
  pub record HasTargetAt (access : Access) (edge cell : ℕ) : Type 0 where
    pub state : State
    pub has : HasState b edge (operation_at b edge) state
    pub target : Contains (targets b access.scalar access.address state) cell

  -- the edge stores the cell, or loads it
  pub record Reaches (stores : Bool) (edge cell : ℕ) : Type 0 where
    pub access : Access
    pub is : access_of stores (operation_at b edge) ≡ Some access
    pub target : HasTargetAt access edge cell

  -- it stores the cell, and not by an initialiser
  abbrev pub Changes : ℕ → ℕ → Type 0
  Changes edge cell = Stores b edge cell × (IsInitialising b edge → ⊥)

  -- ## What an edge does

  pub record WaitsAt (edge : ℕ) : Type 0 where
    pub state : State
    pub has : HasState b edge (operation_at b edge) state
    pub waits : Waits (operation_at b edge)

  pub record StoresSeen (edge : ℕ) : Type 0 where
    pub cell : ℕ
    pub static : IsStatic b cell
    pub stores : Stores b edge cell

  pub record LoadsSeen (edge : ℕ) : Type 0 where
    pub cell : ℕ
    pub static : IsStatic b cell
    pub others : IsStoredByOthers b cell
    pub loads : Loads b edge cell

  -- what other tasks may see, or what sees them
  abbrev pub IsSeenAt : ℕ → Type 0
  IsSeenAt edge = WaitsAt edge ⊎ (StoresSeen edge ⊎ LoadsSeen edge)

-- a task left something in the cell with some mutexes held
pub record LeavesIn (written : Table (Table Values)) (cell : ℕ) : Type 0 where
  pub held : ℕ
  pub left : left_at held cell written ≢ no_value

-- ## Tables

-- each pair once, by its first number, and by its second one
pub record AreAccesses (given : List Pair) (a : Accesses) : Type 0 where
  pub by_edge : AreRising a.by_edge.items
  pub same : (p : Pair) → Contains a.by_edge.items p ↔ Contains given p
  pub by_cell : AreRising a.by_cell.items
  pub others : (p : Pair) → Contains a.by_cell.items p ↔ Contains a.by_edge.items (swapped p)

abbrev pub IsInOrder : Accesses → Type 0
IsInOrder a = AreAccesses a.by_edge.items a

-- the table has the access of the edge to the cell
abbrev pub HasAccess : Accesses → ℕ → ℕ → Type 0
HasAccess a edge cell = Contains a.by_edge.items (pair edge cell)

-- an edge of the span accesses the cell
pub record IsTouched (a : Accesses) (span : Span) (cell : ℕ) : Type 0 where
  pub edge : ℕ
  pub within : IsWithin edge span
  pub has : HasAccess a edge cell

-- the table tells exactly which edges access which cells
pub record IsTableOf (Is : ℕ → ℕ → Type 0) (a : Accesses) : Type 0 where
  pub table : IsInOrder a
  pub exact : (edge cell : ℕ) → HasAccess a edge cell ↔ Is edge cell

-- exactly the numbers of which it holds are marked
abbrev pub AreMarked : (ℕ → Type 0) → List Bool → Type 0
AreMarked Is marks = (k : ℕ) → IsMarked marks k ↔ Is k

pub record AreMarksOf (Is : ℕ → Type 0) (made : Marks) : Type 0 where
  pub marks : AreMarks made.marks.items made
  pub exact : AreMarked Is made.marks.items

-- an edge of the span is marked
pub record IsMarkedIn (made : Marks) (span : Span) : Type 0 where
  pub edge : ℕ
  pub within : IsWithin edge span
  pub marked : IsMarked made.marks.items edge

-- what is looked up is in order
pub record AreTables (t : Touches) : Type 0 where
  pub loads : IsInOrder t.loads
  pub stores : IsInOrder t.stores
  pub changes : IsInOrder t.changes
  pub waits : (let m = t.waits in AreMarks m.marks.items m)
  pub seen : (let m = t.seen in AreMarks m.marks.items m)
  pub acting : (let m = t.acting in AreMarks m.marks.items m)

-- it tells exactly what the edges of a body touch
pub record AreTouches (b : SolvedBody) (t : Touches) : Type 0 where
  pub tables : AreTables t
  pub loads : IsTableOf (Loads b) t.loads
  pub stores : IsTableOf (Stores b) t.stores
  pub changes : IsTableOf (Changes b) t.changes
  pub waits : AreMarksOf (WaitsAt b) t.waits
  pub seen : AreMarksOf (IsSeenAt b) t.seen
  pub acting : AreMarksOf (λ edge. IsActing (operation_at b edge)) t.acting
