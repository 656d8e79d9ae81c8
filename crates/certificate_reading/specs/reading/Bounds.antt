-- Numbers that are kept in fewer bits than they are read in.
use Rattle.std.specs.Prelude.{ℕ, ◌<◌, List, Option, IfSome}
use Rattle.std.specs.List.{All}

-- the number, where there is one, is below the bound; and each of many is
abbrev pub IsUnder : ℕ → Option ℕ → Type 0
IsUnder bound number = IfSome number (λ n. n < bound)

abbrev pub AreUnder : ℕ → List (Option ℕ) → Type 0
AreUnder bound numbers = All (IsUnder bound) numbers
