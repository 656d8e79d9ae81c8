-- What fits a program: states at the places of a body, and stores.
use Rattle.std.specs.Prelude.{◌≡◌, ℕ, ◌<◌, ◌^◌, ◌-◌, min, true, false, List, length, Option, Some, None}
use Rattle.std.specs.FinMap.{get}
use Rattle.value_heights.specs.tm_lattice.Tables.{Table}
use Rattle.temporary_types.specs.tm_laid.Layouts.{LaidTree, abstract_at}
use Rattle.value_heights.specs.pointer_dom.Values.{Values, IsValues, IsValuesBelow, no_value, joined_values}
use Rattle.edge_actions.specs.cell_env.Cells.{IsWithin}
use Rattle.edge_actions.specs.interfere_set.Stores.{Nested, Interferences, IsStore}
use Rattle.edge_actions.specs.transfer_rows.StateForms.{Temp, Cell, State, IsStateForm}
use Rattle.edge_actions.specs.transfer_rows.Accesses.{is_among}
use Rattle.temporary_types.specs.Sorts.{IsMutex}
use Rattle.typed_values.specs.Types.{AreObjects, IsOfType}
use Rattle.edge_actions.specs.transfer_rows.Actions.{Spot}
use Rattle.edge_actions.specs.transfer_rows.Meanings.{IsSpotOf}
use Rattle.edge_actions.specs.Layouts.{is_reachable, is_shared_cell, spots_of}
use Rattle.temporary_types.specs.tm_typed.declared.types.Scalar.{Scalar}

-- ## Temporaries

-- Of each temporary the values that it may hold: that it holds none is one of them; with a value all that is less is,
-- and with two their join.
pub record AreKinds (laid : LaidTree) (Holds : ℕ → Values → Type 0) : Type 0 where
  pub none : (t : ℕ) → Holds t no_value
  pub values : (t : ℕ) (v : Values) → Holds t v → IsValues v
  pub objects : (t : ℕ) (v : Values) → Holds t v → AreObjects laid v.pointers
  pub less : (t : ℕ) (v w : Values) → Holds t w → IsValues v → AreObjects laid v.pointers → IsValuesBelow v w
      → Holds t v
  pub joined : (t : ℕ) (v w : Values) → Holds t v → Holds t w → Holds t (joined_values v w)

-- a temporary that has a value is live, and may hold it; one that has none is not live
abbrev pub FitsTemp : (ℕ → Values → Type 0) → List ℕ → ℕ → Option Temp → Type 0
FitsTemp Holds live t None = is_among live t ≡ false
FitsTemp Holds live t (Some e) = (is_among live t ≡ true) × Holds t e.value

-- ## States

-- the set of all mutexes of the file, of which there are at most sixteen
abbrev pub file_set : LaidTree → ℕ
file_set laid = 2 ^ min (length laid.file.mutexes) 16 - 1

module _ (laid : LaidTree) where
  -- the abstract cell is static or the body's own
  pub record IsSeenCell (task x : ℕ) : Type 0 where
    pub cell : x < length laid.abstract_cells
    pub seen : (let a = abstract_at laid x in is_reachable laid task a.object ≡ true)

  -- each cell that an access of the body may reach is one that it sees
  abbrev pub SpotsSeen : ℕ → Type 0
  SpotsSeen task = (scalar : Scalar) (spot : Spot) → IsSpotOf (spots_of laid task scalar) spot
      → IsSeenCell task spot.cell

  -- a copy is of a cell that the body sees
  abbrev pub IsSeenCopy : ℕ → Option ℕ → Type 0
  IsSeenCopy task None = Unit {0}
  IsSeenCopy task (Some x) = IsSeenCell task x

  abbrev pub FitsCopy : ℕ → Option Temp → Type 0
  FitsCopy task None = Unit {0}
  FitsCopy task (Some e) = IsSeenCopy task e.copy

  -- The own value of a cell is of its type, and what is pending is a set of mutexes of the file. Nothing is pending in
  -- a local cell, and of a shared cell it is not said that it is stored.
  pub record IsCellOf (x : ℕ) (c : Cell) : Type 0 where
    pub value : (let a = abstract_at laid x in IsOfType laid a.scalar c.value)
    pub pending : IsWithin c.pending (file_set laid)
    pub local : is_shared_cell laid x ≡ false → c.pending ≡ 0
    pub shared : is_shared_cell laid x ≡ true → c.stored ≡ false

  -- each cell that is static or the body's own has an entry, and no other has
  abbrev pub FitsCell : ℕ → ℕ → Option Cell → Type 0
  FitsCell task x None = IsSeenCell task x → ⊥
  FitsCell task x (Some c) = IsSeenCell task x × IsCellOf x c

-- The state fits a body with this number at a place where these temporaries are live, and each may hold these values.
pub record FitsPlace (laid : LaidTree) (task : ℕ) (Holds : ℕ → Values → Type 0) (live : List ℕ) (s : State) : Type 0
  where
    pub form : IsStateForm s
    pub temps : (t : ℕ) → FitsTemp Holds live t (get s.temps t)
    pub copies : (t : ℕ) → FitsCopy laid task (get s.temps t)
    pub cells : (x : ℕ) → FitsCell laid task x (get s.cells x)

-- ## Stores

-- entries are of tasks, under sets of mutexes of the file or such mutexes, and have values of shared cells
pub record FitsNested (laid : LaidTree) (tasks : ℕ) (IsSet : ℕ → Type 0) (n : Nested) : Type 0 where
  pub writers : (j : ℕ) (written : Table (Table Values)) → get n j ≡ Some written → j < tasks
  pub sets : (j l : ℕ) (written : Table (Table Values)) (cells : Table Values) → get n j ≡ Some written
      → get written l ≡ Some cells → IsSet l
  pub shared : (j l x : ℕ) (written : Table (Table Values)) (cells : Table Values) (v : Values)
      → get n j ≡ Some written → get written l ≡ Some cells → get cells x ≡ Some v
      → (x < length laid.abstract_cells) × (is_shared_cell laid x ≡ true)
  pub values : (j l x : ℕ) (written : Table (Table Values)) (cells : Table Values) (v : Values)
      → get n j ≡ Some written → get written l ≡ Some cells → get cells x ≡ Some v
      → (let a = abstract_at laid x in IsOfType laid a.scalar v)

-- the store fits a program with so many tasks
pub record FitsStore (laid : LaidTree) (tasks : ℕ) (store : Interferences) : Type 0 where
  pub form : IsStore store
  pub weak : FitsNested laid tasks (λ l. IsWithin l (file_set laid)) store.weak
  pub sync : FitsNested laid tasks (IsMutex laid) store.sync
