-- At which cells an operation looks besides the temporaries.
use Rattle.std.specs.Prelude.{◌≡◌, ℕ, Bool, true, Option, Some, None}
use Rattle.std.specs.FinMap.{get}
use Rattle.transfer_rows.specs.StateForms.{State, Temp, value_of}
use Rattle.transfer_rows.specs.Accesses.{is_among, targets_at}
use Rattle.transfer_rows.specs.Actions.{Action, refines, loads}
use Rattle.transfer_rows.specs.Meanings.{IsFiltered}

module _ (looks : ℕ → Bool) where
  -- the states are alike as far as an operation may look
  pub record Agree (s t : State) : Type 0 where
    pub temps : s.temps ≡ t.temps
    pub cells : (x : ℕ) → looks x ≡ true → get s.cells x ≡ get t.cells x

  -- both lead on, to states that are alike so far, or neither does
  abbrev pub Alike : Option State → Option State → Type 0
  Alike None None = Unit {0}
  Alike None (Some t) = ⊥
  Alike (Some s) None = ⊥
  Alike (Some s) (Some t) = Agree s t

  -- the operation may look at a cell of which the temporary is a copy
  abbrev pub IsCopyIn : Option Temp → Type 0
  IsCopyIn None = Unit {0}
  IsCopyIn (Some e) = (x : ℕ) → e.copy ≡ Some x → looks x ≡ true

  -- a load may look at its targets, and a test at the cells of which tested temporaries are copies
  unfoldable pub Looks : Action → State → Type 0
  Looks (loads spots target address) s =
      (x : ℕ) → is_among (targets_at spots (value_of s address).pointers) x ≡ true → looks x ≡ true
  Looks (refines filter) s = (t : ℕ) → IsFiltered filter t → IsCopyIn (get s.temps t)
  Looks action s = Unit {0}
