-- What the quotients by one number ask of it.
use Rattle.std.specs.Prelude.{◌≢◌, ℤ, pos}
use Rattle.congruence_dom.specs.Laws.{DividesAll}
use Rattle.congruence_dom.specs.declared.classes.Cong.{Cong}

-- d can divide, and divides residue and modulus.
pub record IsCommonDivisor (d : ℤ) (class : Cong) : Type 0 where
  pub not_zero : d ≢ pos 0
  pub divides : DividesAll d class
