-- What a state says of one temporary: its value, and the cell of which it is a copy.
use Rattle.std.specs.Prelude.{◌≡◌, ℕ, ◌+◌, eqb, cond, Option, Some, None}
use Rattle.cell_env.specs.declared.temps.TempState.{TempState}

-- the other side has no copy that this one has not
abbrev pub IsCopyBelow : Option ℕ → Option ℕ → Type 0
IsCopyBelow one other = (x : ℕ) → other ≡ Some x → one ≡ Some x

-- the copy that both have
abbrev pub joined_copy : Option ℕ → Option ℕ → Option ℕ
joined_copy None other = None
joined_copy (Some x) None = None
joined_copy (Some x) (Some y) = cond (eqb x y) (Some x) None

-- a copy counts where it is gone
abbrev pub copy_height : Option ℕ → ℕ
copy_height None = 1
copy_height (Some x) = 0

module _ {V N : Type 0} where
  abbrev pub IsTemp : (V → Type 0) → TempState V N → Type 0
  IsTemp is_value t = is_value t.value

  -- more values are above, and no copy is above a copy
  pub record IsTempBelow (leq : V → V → Type 0) (t u : TempState V N) : Type 0 where
    pub value : leq t.value u.value
    pub copy : IsCopyBelow t.copy u.copy

  abbrev pub joined_temp : (V → V → V) → TempState V N → TempState V N → TempState V N
  joined_temp join t u = record { value = join t.value u.value; copy = joined_copy t.copy u.copy }

  -- how high a temporary stands, where its value has a height
  abbrev pub temp_height : (V → ℕ) → TempState V N → ℕ
  temp_height height t = height t.value + copy_height t.copy
