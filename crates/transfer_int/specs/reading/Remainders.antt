-- The remainders of the members of two sets.
use Rattle.std.specs.Prelude.{◌<◌, ℤ, unsigned_abs}
use Rattle.strided_dom.specs.Progression.{Progression, Has}
use Rattle.transfer_int.specs.Operands.{IsDivisor}

-- Some member can divide.
abbrev pub HasSomeDivisor : Progression → Type 0
HasSomeDivisor b = (y : ℤ) × IsDivisor b y

-- Each member of a is smaller than each divisor of b.
abbrev pub AreSmaller : Progression → Progression → Type 0
AreSmaller a b = (x y : ℤ) → Has a x → IsDivisor b y → unsigned_abs x < unsigned_abs y
