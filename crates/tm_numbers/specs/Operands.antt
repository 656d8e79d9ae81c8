-- On which pairs of numbers an operator has a result.
use Rattle.std.specs.Prelude.{◌≢◌, ℤ, pos, ⊤}

-- on all
abbrev pub AnyNumbers : ℤ → ℤ → Type 0
AnyNumbers x y = ⊤

-- where the second one is not 0
abbrev pub NotByZero : ℤ → ℤ → Type 0
NotByZero x y = y ≢ pos 0
