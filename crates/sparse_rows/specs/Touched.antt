-- Which cells an operation leaves as they are, and which it changes by themselves alone.
use Rattle.std.specs.Prelude.{◌≡◌, ℕ, false, Option, Some, None, IfSome}
use Rattle.std.specs.FinMap.{get}
use Rattle.transfer_rows.specs.interfere_set.Stores.{Interferences}
use Rattle.transfer_rows.specs.StateForms.{Cell, State, Temp, value_of}
use Rattle.transfer_rows.specs.Accesses.{is_among, targets_at}
use Rattle.transfer_rows.specs.Actions.{Around, Action, refines, stores, clears}
use Rattle.transfer_rows.specs.Actions.{locks, unlocks, yields, probes}
use Rattle.transfer_rows.specs.Meanings.{IsFiltered}
use Rattle.transfer_rows.specs.Rows.{aged, released, taken}

-- what stands at the cell is this
abbrev pub HasSame : Option Cell → ℕ → State → Type 0
HasSame at x t = get t.cells x ≡ at

-- the state that an operation leads to, if it leads on, has this at the cell
abbrev pub IfSame : Option Cell → ℕ → Option State → Type 0
IfSame at x t = IfSome t (HasSame at x)

-- the temporary is no copy of the cell
abbrev pub IsNoCopy : Option Temp → ℕ → Type 0
IsNoCopy None x = Unit {0}
IsNoCopy (Some e) x = e.copy ≡ Some x → ⊥

-- the change does nothing to what stands at the cell
abbrev pub IsKeptBy : (Cell → Cell) → Option Cell → Type 0
IsKeptBy change None = Unit {0}
IsKeptBy change (Some c) = change c ≡ c

module _ (around : Around) where
  -- The operation leaves the cell as it is: it is no target, not cleared, tested temporaries are no copies of it, and
  -- what the scheduler's operations do to each cell does nothing to it.
  unfoldable pub Leaves : Action → State → Interferences → ℕ → Type 0
  Leaves (refines filter) s store x = (t : ℕ) → IsFiltered filter t → IsNoCopy (get s.temps t) x
  Leaves (stores spots address source) s store x =
      is_among (targets_at spots (value_of s address).pointers) x ≡ false
  Leaves (clears cleared) s store x = cleared x ≡ None
  Leaves (locks m) s store x = IsKeptBy (λ c. aged (taken around store m x c)) (get s.cells x)
  Leaves (unlocks m) s store x = IsKeptBy (released m) (get s.cells x)
  Leaves yields s store x = IsKeptBy aged (get s.cells x)
  Leaves (probes m target false) s store x = IsKeptBy (taken around store m x) (get s.cells x)
  Leaves action s store x = Unit {0}

-- The operation makes of the cell what it makes of each cell by itself, if anything: it is no target, not cleared, and
-- tested temporaries are no copies of it.
unfoldable pub Passes : Action → State → ℕ → Type 0
Passes (refines filter) s x = (t : ℕ) → IsFiltered filter t → IsNoCopy (get s.temps t) x
Passes (stores spots address source) s x = is_among (targets_at spots (value_of s address).pointers) x ≡ false
Passes (clears cleared) s x = cleared x ≡ None
Passes action s x = Unit {0}
