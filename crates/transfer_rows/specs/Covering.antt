-- What the state after an operation has to hold of a step from a state, in terms of members: one record for each
-- operation. No other task and no memory is spoken of.
use Rattle.std.specs.Prelude.{◌≡◌, ◌≢◌, ◌⊎◌, ℕ, ◌<◌, Bool, true, false, IsTrue, Option, Some, None}
use Rattle.std.specs.Int.{bit_at}
use Rattle.std.specs.FinMap.{get}
use Rattle.interfere_set.specs.pointer_dom.OffsetSets.{OffsetSet}
use Rattle.interfere_set.specs.pointer_dom.Pointer.{ScalarValue}
use Rattle.interfere_set.specs.pointer_dom.Values.{Values, IsValueIn}
use Rattle.interfere_set.specs.Stores.{Interferences, handed}
use Rattle.transfer_rows.specs.StateForms.{Temp, Cell, State, value_of, own_of}
use Rattle.transfer_rows.specs.Actions.{Around}
use Rattle.transfer_rows.specs.Meanings.{Valuation, put}

-- the values of the temporaries lie in the state
pub record AreIn (s : State) (temps : Valuation) : Type 0 where
  pub in_value : (t : ℕ) (e : Temp) → get s.temps t ≡ Some e → IsValueIn e.value (temps t)

-- the temporary is live, and the cell is one of the state
pub record HasTemp (s : State) (t : ℕ) : Type 0 where
  pub entry : Temp
  pub stands : get s.temps t ≡ Some entry

pub record HasCell (s : State) (x : ℕ) : Type 0 where
  pub entry : Cell
  pub stands : get s.cells x ≡ Some entry

-- the second state has no entry that the first one has not
pub record HaveSameKeys (s t : State) : Type 0 where
  pub temps : (u : ℕ) → HasTemp t u → HasTemp s u
  pub cells : (x : ℕ) → HasCell t x → HasCell s x

-- the objects of the state have their sizes
pub record AreSized (sizes : ℕ → ℕ) (s : State) : Type 0 where
  pub size : (t object : ℕ) (o : OffsetSet) → get (value_of s t).pointers.objects object ≡ Some o
      → o.size ≡ sizes object

-- temporary t is a copy of cell x
pub record IsCopyOf (s : State) (t x : ℕ) : Type 0 where
  pub entry : Temp
  pub stands : get s.temps t ≡ Some entry
  pub copy : entry.copy ≡ Some x

-- a mutex is pending at the cell, and the cell is fresh, and stored
pub record IsPending (s : State) (x m : ℕ) : Type 0 where
  pub entry : Cell
  pub stands : get s.cells x ≡ Some entry
  pub pending : bit_at entry.pending m ≡ 1

pub record IsFresh (s : State) (x : ℕ) : Type 0 where
  pub entry : Cell
  pub stands : get s.cells x ≡ Some entry
  pub fresh : IsTrue entry.fresh

pub record IsStored (s : State) (x : ℕ) : Type 0 where
  pub entry : Cell
  pub stands : get s.cells x ≡ Some entry
  pub stored : IsTrue entry.stored

-- The copies of local cells have values that these cells may have, and copies of one local cell agree.
pub record AreLocalsIn (is_shared : ℕ → Bool) (s : State) (temps : Valuation) : Type 0 where
  pub in_own : (t x : ℕ) → IsCopyOf s t x → is_shared x ≡ false → IsValueIn (own_of s x) (temps t)
  pub agree : (t u x : ℕ) → IsCopyOf s t x → IsCopyOf s u x → is_shared x ≡ false → temps t ≡ temps u

-- own values and pending mutexes are passed on, and nothing becomes fresh or stored
pub record Keeps (s s' : State) : Type 0 where
  pub own : (x : ℕ) (v : ScalarValue) → IsValueIn (own_of s x) v → IsValueIn (own_of s' x) v
  pub pending : (x m : ℕ) → IsPending s x m → IsPending s' x m
  pub fresh : (x : ℕ) → IsFresh s' x → IsFresh s x
  pub stored : (x : ℕ) → IsStored s' x → IsStored s x

-- A calculation or a filter: an own value stays that no copy of its cell speaks against.
pub record CoversCalculation (s s' : State) (temps temps' : Valuation) : Type 0 where
  pub inside : AreIn s' temps'
  pub own : (x : ℕ) (v : ScalarValue) → IsValueIn (own_of s x) v → ((t : ℕ) → IsCopyOf s t x → temps t ≡ v)
      → IsValueIn (own_of s' x) v
  pub copies : (t x : ℕ) → IsCopyOf s' t x → IsCopyOf s t x × (temps' t ≡ temps t)
  pub pending : (x m : ℕ) → IsPending s x m → IsPending s' x m
  pub fresh : (x : ℕ) → IsFresh s' x → IsFresh s x
  pub stored : (x : ℕ) → IsStored s' x → IsStored s x

module _ (around : Around) where
  -- y is the one cell that was read, which is no smashed one, and is shared or was stored
  pub record IsCopied (s : State) (x y : ℕ) : Type 0 where
    pub is : y ≡ x
    pub whole : around.is_smashed y ≡ false
    pub known : (around.is_shared y ≡ true) ⊎ IsStored s y

  pub record CoversLoad (s s' : State) (temps : Valuation) (t x : ℕ) (w : ScalarValue) : Type 0 where
    pub inside : AreIn s' (put temps t w)
    pub keeps : Keeps s s'
    pub copies : (u y : ℕ) → IsCopyOf s' u y → (IsCopyOf s u y × (put temps t w u ≡ temps u))
        ⊎ ((put temps t w u ≡ w) × IsCopied s x y)

  -- the cell is another one than was written, or may be: an element of a smashed array
  abbrev pub IsOtherThan : ℕ → ℕ → Type 0
  IsOtherThan x y = y ≡ x → around.is_smashed x ≡ true

  -- w is written to x, and goes to its weak entry
  pub record CoversStore (s s' : State) (temps : Valuation) (x : ℕ) (w : ScalarValue) (entry : Values) : Type 0 where
    pub inside : AreIn s' temps
    pub own : IsValueIn (own_of s' x) w
    pub own_other : (y : ℕ) (v : ScalarValue) → IsOtherThan x y → IsValueIn (own_of s y) v → IsValueIn (own_of s' y) v
    pub pending : (m : ℕ) → around.is_shared x ≡ true → bit_at around.reader.held m ≡ 1 → IsPending s' x m
    pub pending_other : (y m : ℕ) → IsOtherThan x y → IsPending s y m → IsPending s' y m
    pub fresh_other : (y : ℕ) → IsOtherThan x y → IsFresh s' y → IsFresh s y
    pub stored_other : (y : ℕ) → IsOtherThan x y → IsStored s' y → IsStored s y
    pub copies : (t y : ℕ) → IsCopyOf s' t y → IsCopyOf s t y × (y ≢ x)
    pub added : around.is_shared x ≡ true → IsValueIn entry w

  pub record CoversClear (s s' : State) (temps : Valuation) (cleared : ℕ → Option Values) : Type 0 where
    pub inside : AreIn s' temps
    pub own : (x : ℕ) (v : Values) (w : ScalarValue) → cleared x ≡ Some v → HasCell s x → IsValueIn v w
        → IsValueIn (own_of s' x) w
    pub own_other : (x : ℕ) (w : ScalarValue) → cleared x ≡ None → IsValueIn (own_of s x) w
        → IsValueIn (own_of s' x) w
    pub pending : (x m : ℕ) → IsPending s x m → IsPending s' x m
    pub fresh : (x : ℕ) → IsFresh s' x → IsFresh s x
    pub stored : (x : ℕ) → IsStored s' x → IsStored s x × (cleared x ≡ None)
    pub copies : (t x : ℕ) → IsCopyOf s' t x → IsCopyOf s t x × (cleared x ≡ None)

  -- what the others left under the mutex comes in
  abbrev pub TakesOver : State → State → Interferences → ℕ → Type 0
  TakesOver s s' store m = (x : ℕ) (v : ScalarValue) → around.is_shared x ≡ true → HasCell s x
      → IsValueIn (handed around.reader.task m x store) v → IsValueIn (own_of s' x) v

  pub record CoversLock (s s' : State) (store : Interferences) (temps : Valuation) (m : ℕ) : Type 0 where
    pub inside : AreIn s' temps
    pub keeps : Keeps s s'
    pub handed : TakesOver s s' store m
    pub fresh : (x : ℕ) → IsFresh s' x → ⊥
    pub copies : (t x : ℕ) → IsCopyOf s' t x → ⊥

  -- what is pending under the mutex goes to its sync entry
  pub record CoversUnlock (s s' : State) (temps : Valuation) (m : ℕ) (entry : ℕ → Values) : Type 0 where
    pub inside : AreIn s' temps
    pub own : (x : ℕ) (v : ScalarValue) → IsValueIn (own_of s x) v → IsValueIn (own_of s' x) v
    pub pending : (x n : ℕ) → n ≢ m → m < 16 → n < 16 → IsPending s x n → IsPending s' x n
    pub fresh : (x : ℕ) → IsFresh s' x → IsFresh s x
    pub stored : (x : ℕ) → IsStored s' x → IsStored s x
    pub copies : (t x : ℕ) → IsCopyOf s' t x → IsCopyOf s t x
    pub added : (x : ℕ) (v : ScalarValue) → around.is_shared x ≡ true → IsPending s x m → IsValueIn (own_of s x) v
        → IsValueIn (entry x) v

  pub record CoversFree (s s' : State) (store : Interferences) (temps : Valuation) (m : ℕ) : Type 0 where
    pub inside : AreIn s' temps
    pub keeps : Keeps s s'
    pub handed : TakesOver s s' store m
    pub copies : (t x : ℕ) → IsCopyOf s' t x → ⊥

pub record CoversYield (s s' : State) (temps : Valuation) : Type 0 where
  pub inside : AreIn s' temps
  pub keeps : Keeps s s'
  pub fresh : (x : ℕ) → IsFresh s' x → ⊥
  pub copies : (t x : ℕ) → IsCopyOf s' t x → IsCopyOf s t x

pub record CoversHeld (s s' : State) (temps temps' : Valuation) : Type 0 where
  pub inside : AreIn s' temps'
  pub keeps : Keeps s s'
  pub copies : (t x : ℕ) → IsCopyOf s' t x → IsCopyOf s t x × (temps' t ≡ temps t)

-- the operation leads to a state that covers the step
pub record LeadsTo (reached : Option State) (Covers : State → Type 0) : Type 0 where
  pub state : State
  pub is : reached ≡ Some state
  pub covers : Covers state
