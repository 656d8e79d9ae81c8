-- Marks of numbers.
use Rattle.std.specs.Prelude.{◌≡◌, ℕ, ◌+◌, ◌<◌, ◌≤◌, Bool, true, false, List, length, get_or}
use Rattle.operand_orders.specs.declared.marks.Marks.{Marks}

-- the number is marked
abbrev pub IsMarked : List Bool → ℕ → Type 0
IsMarked marks k = get_or marks k false ≡ true

-- so many are the first ones up to the last that is marked, of this many
pub record IsLast (marks : List Bool) (count last : ℕ) : Type 0 where
  pub within : last ≤ count
  pub marked : (k : ℕ) → last ≡ k + 1 → IsMarked marks k
  pub none : (k : ℕ) → last ≤ k → k < count → IsMarked marks k → ⊥

-- for each number of first ones, up to this
pub record AreLasts (marks : List Bool) (most : ℕ) (lasts : List ℕ) : Type 0 where
  pub count : length lasts ≡ most + 1
  pub each : (n : ℕ) → n < most + 1 → IsLast marks n (get_or lasts n 0)

-- what is looked up of the marks
pub record AreMarks (given : List Bool) (made : Marks) : Type 0 where
  pub marks : made.marks.items ≡ given
  pub lasts : AreLasts given (length given) made.lasts.items

-- a number of the range is marked
pub record IsMarkedBetween (marks : List Bool) (first end : ℕ) : Type 0 where
  pub number : ℕ
  pub from : first ≤ number
  pub to : number < end
  pub marked : IsMarked marks number
