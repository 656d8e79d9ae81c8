-- What code has to check of an edge in the state in which it applies it.
use Rattle.std.specs.Prelude.{◌≡◌, ℕ, ◌<◌, Bool, true, false, Some, None}
use Rattle.sparse_tables.specs.table_covers.Systems.{System, from_of}
use Rattle.sparse_tables.specs.table_covers.Solutions.{NodeTable, edge_count}
use Rattle.transfer_rows.specs.interfere_set.Stores.{Interferences}
use Rattle.transfer_rows.specs.StateForms.{Cell, State, value_of}
use Rattle.transfer_rows.specs.Accesses.{is_among, targets_at}
use Rattle.transfer_rows.specs.Actions.{Around, Action, refines, loads, stores, clears}
use Rattle.transfer_rows.specs.Actions.{locks, unlocks, yields, probes}
use Rattle.transfer_rows.specs.Meanings.{IsFiltered}
use Rattle.transfer_rows.specs.Rows.{taken, without}
use Rattle.sparse_tables.specs.Sparse.{Placing}
use Rattle.sparse_rows.specs.Traces.{MayPend}
use Rattle.sparse_rows.specs.StateParts.{states}

module _ (around : Around) (touch carries looks : ℕ → Bool) (copies : ℕ → ℕ → Bool) (fresh : ℕ → Bool)
    (pending : ℕ → ℕ) where
  -- What code has to check where it applies an operation: loads look at their targets, and may make copies of them;
  -- stores touch their targets, and may make them fresh and the mutexes held pending there; cells of which a tested
  -- temporary may be a copy are touched, and so are those of a cleared object; touched or carried are those where a
  -- lock or a free mutex brings something, those that may be fresh where freshness ends, and those where an unlocked
  -- mutex may be pending.
  unfoldable pub IsChecked : Action → State → Interferences → Type 0
  IsChecked (loads spots target address) s store =
      (x : ℕ) → is_among (targets_at spots (value_of s address).pointers) x ≡ true
      → (looks x ≡ true) × (copies target x ≡ true)
  IsChecked (stores spots address source) s store =
      (x : ℕ) → is_among (targets_at spots (value_of s address).pointers) x ≡ true
      → (touch x ≡ true) × (fresh x ≡ true) × MayPend copies fresh pending around x
  IsChecked (refines filter) s store =
      (t : ℕ) → IsFiltered filter t → (x : ℕ) → copies t x ≡ true → touch x ≡ true
  IsChecked (clears cleared) s store = (x : ℕ) → touch x ≡ false → cleared x ≡ None
  IsChecked (locks m) s store =
      (x : ℕ) → touch x ≡ false → carries x ≡ false
      → (fresh x ≡ false) × ((c : Cell) → taken around store m x c ≡ c)
  IsChecked (unlocks m) s store = (x : ℕ) → touch x ≡ false → carries x ≡ false
      → without (pending x) m ≡ pending x
  IsChecked yields s store = (x : ℕ) → touch x ≡ false → carries x ≡ false → fresh x ≡ false
  IsChecked (probes m target false) s store = (x : ℕ) → touch x ≡ false → carries x ≡ false
      → (c : Cell) → taken around store m x c ≡ c
  IsChecked action s store = Unit {0}

-- each edge was checked in the state of the table
abbrev pub AreChecked : (ℕ → State → Type 0) → System State → (ℕ → Around) → (ℕ → Action) → Interferences → Placing
    → (ℕ → ℕ → Bool) → (ℕ → Bool) → (ℕ → ℕ) → NodeTable State → Type 0
AreChecked suits sys around action store place copies fresh pending table = (e : ℕ) → e < edge_count states suits sys
    → (d : State) → table (from_of sys.links e) ≡ Some d
    → IsChecked (around e) (place.touches e) (place.carries e) (place.looks e) copies fresh pending (action e) d store
