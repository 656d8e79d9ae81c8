-- Of which cells temporaries may be copies, which cells may be fresh, and which mutexes may be pending at a cell.
use Rattle.std.specs.Prelude.{◌≡◌, ℕ, Bool, true, Option, Some, None}
use Rattle.std.specs.FinMap.{get}
use Rattle.transfer_rows.specs.cell_env.Cells.{IsWithin}
use Rattle.transfer_rows.specs.StateForms.{Cell, State, Temp, value_of}
use Rattle.transfer_rows.specs.Accesses.{is_among, targets_at}
use Rattle.transfer_rows.specs.Actions.{Around, Action, loads, stores}

module _ (copies : ℕ → ℕ → Bool) (fresh : ℕ → Bool) (pending : ℕ → ℕ) where
  -- the temporary is a copy of none but these cells
  abbrev pub AreCopies : ℕ → Option Temp → Type 0
  AreCopies u None = Unit {0}
  AreCopies u (Some e) = (x : ℕ) → e.copy ≡ Some x → copies u x ≡ true

  -- the cell is fresh only where it may be
  abbrev pub IsFreshAt : ℕ → Option Cell → Type 0
  IsFreshAt x None = Unit {0}
  IsFreshAt x (Some c) = c.fresh ≡ true → fresh x ≡ true

  -- the mutexes that are pending at the cell are among those that may be
  abbrev pub IsPendingAt : ℕ → Option Cell → Type 0
  IsPendingAt x None = Unit {0}
  IsPendingAt x (Some c) = IsWithin c.pending (pending x)

  -- copies, fresh cells and pending mutexes are among those that may be
  pub record IsTraced (s : State) : Type 0 where
    pub copied : (u : ℕ) → AreCopies u (get s.temps u)
    pub aged : (x : ℕ) → IsFreshAt x (get s.cells x)
    pub held : (x : ℕ) → IsPendingAt x (get s.cells x)

  -- where the mutexes that are held become pending, they may be pending
  abbrev pub MayPend : Around → ℕ → Type 0
  MayPend around x = around.is_shared x ≡ true → IsWithin around.reader.held (pending x)

  -- the operation makes no other copies, no other cell fresh, and no other mutex pending
  unfoldable pub Makes : Around → Action → State → Type 0
  Makes around (loads spots target address) s =
      (x : ℕ) → is_among (targets_at spots (value_of s address).pointers) x ≡ true → copies target x ≡ true
  Makes around (stores spots address source) s =
      (x : ℕ) → is_among (targets_at spots (value_of s address).pointers) x ≡ true
      → (fresh x ≡ true) × MayPend around x
  Makes around action s = Unit {0}
