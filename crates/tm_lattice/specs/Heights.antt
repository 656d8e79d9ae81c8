-- Heights: numbers that rise where a value does, so that rising values come to an end below a greatest one.
use Rattle.std.specs.Prelude.{◌≡◌, ℕ, suc, ◌+◌, ◌≤◌, List, [], ◌∷◌}
use Rattle.std.specs.FinMap.{entries}
use Rattle.tm_lattice.specs.Tables.{Table}

-- what lies above is at least as high, and nothing else that lies above is as high
pub record IsHeight {V : Type 0} (is_value : V → Type 0) (leq : V → V → Type 0) (height : V → ℕ) : Type 0 where
  pub climbs : (x y : V) → is_value x → is_value y → leq x y → height x ≤ height y
  pub strictly : (x y : V) → is_value x → is_value y → leq x y → height y ≤ height x → x ≡ y

module _ {V : Type 0} (height : V → ℕ) where
  -- how high the values of these entries are together, each entry counting one more
  abbrev pub entries_height : List (ℕ × V) → ℕ
  entries_height [] = 0
  entries_height (e ∷ es) = suc (height e.1) + entries_height es

  -- the height of a table: that of its entries
  abbrev pub table_height : Table V → ℕ
  table_height t = entries_height (entries t)
