-- What may be left over where a life begins.
use Rattle.std.specs.Prelude.{◌≡◌, ◌≢◌, ◌⊎◌, ◌↔◌, ℕ, List, Contains, Option, Some, None}
use Rattle.std.specs.FinMap.{get}
use Rattle.std.specs.List.Sorted.{IsStrictlyIncreasing}
use Rattle.tm_lattice.specs.Tables.{Table}
use Rattle.tm_laid.specs.Layouts.{abstract_at}
use Rattle.pointer_dom.specs.Values.{Values}
use Rattle.interfere_set.specs.Stores.{Interferences, value_or_none, left_at}
use Rattle.flow_graph.specs.declared.operations.Operation.{Operation}
use Rattle.flow_graph.specs.declared.operations.Operation.TheVariants as Op
use Rattle.post_recheck.specs.transfer_rows.StateForms.{State, value_of, own_of}
use Rattle.post_recheck.specs.transfer_rows.Contributions.{entry_at}
use Rattle.path_origins.specs.declared.origins.Life.{Life}
use Rattle.operand_orders.specs.Reached.{SolvedBody, operation_at, HasState, IsOpen}
use Rattle.operand_orders.specs.reading.Views.{state_at}
use Rattle.open_choices.specs.Lifetimes.{PointsTo}

-- the temporary through which an operation stores, if it does
abbrev pub address_of : Operation → Option ℕ
address_of (Op.Store address value scalar into place) = Some address
address_of op = None

-- a temporary other than this one may point to an object
pub record IsHeldByTemp (s : State) (own : Option ℕ) (object : ℕ) : Type 0 where
  pub temp : ℕ
  pub other : own ≡ Some temp → ⊥
  pub points : PointsTo (value_of s temp) object

-- exactly what something holds of is added
abbrev pub AddsTo : {C : Type 0} → List C → List C → (C → Type 0) → Type 0
AddsTo {C} old new Is = (c : C) → Contains new c ↔ (Contains old c ⊎ Is c)

-- what one of a list gives
pub record IsOfEach {X C : Type 0} (Opens : X → C → Type 0) (xs : List X) (c : C) : Type 0 where
  pub one : X
  pub has : Contains xs one
  pub opens : Opens one c

-- the value of one of some cells may point to an object
pub record IsPointedIn (cells : Table Values) (object : ℕ) : Type 0 where
  pub cell : ℕ
  pub points : PointsTo (value_or_none (get cells cell)) object

-- under one of some sets of mutexes
pub record IsHeldIn (written : Table (Table Values)) (object : ℕ) : Type 0 where
  pub held : ℕ
  pub cell : ℕ
  pub points : PointsTo (left_at held cell written) object

-- what another task wrote may
pub record IsHeldByOthers (store : Interferences) (body object : ℕ) : Type 0 where
  pub task : ℕ
  pub held : ℕ
  pub cell : ℕ
  pub other : task ≢ body
  pub points : PointsTo (entry_at store.weak task held cell) object

-- these are exactly those objects, in order
pub record AreHeldByOthers (store : Interferences) (body : ℕ) (objects : List ℕ) : Type 0 where
  pub rising : IsStrictlyIncreasing objects
  pub exact : (x : ℕ) → Contains objects x ↔ IsHeldByOthers store body x

module _ (b : SolvedBody) (life : Life) where
  -- another object is open where the life begins, and a value may point to its own one
  abbrev pub IsLeftAt : ℕ → Values → Type 0
  IsLeftAt object v = (object ≢ life.object) × PointsTo v life.object × IsOpen b life.begins object

  -- the same of the object of a cell with this value
  abbrev pub IsLeftIn : ℕ → Values → Type 0
  IsLeftIn cell v = (let a = abstract_at b.laid cell in IsLeftAt a.object v)

  pub record IsHeldByCell (s : State) : Type 0 where
    pub cell : ℕ
    pub left : IsLeftIn cell (own_of s cell)

  -- in the state that a copy leaves
  pub record IsHeldBehind (own : Option ℕ) (copy : ℕ) : Type 0 where
    pub state : State
    pub is : state_at b copy ≡ Some state
    pub held : IsHeldByTemp state own life.object ⊎ IsHeldByCell state

  -- in a state where the life begins
  pub record IsLeftHere : Type 0 where
    pub state : State
    pub has : HasState b life.begins (operation_at b life.begins) state
    pub held : IsHeldByTemp state (address_of (operation_at b life.begins)) life.object ⊎ IsHeldByCell state
