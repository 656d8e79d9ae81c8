-- Numbers that 64 bits hold.
use Rattle.std.proofs.Common.{◌≡◌, ℤ, ◌+ℤ◌, ◌-ℤ◌, ◌*ℤ◌, Option, Some, None, arith}
use Rattle.std.proofs.lemmas.Int.{ints}
use Rattle.std.specs.Prelude.{SomeIff}
use Rattle.std.specs.Int.{w64}
use Rattle.std.specs.Int.RustNames.{FitsSigned}
use Rattle.text_choices.specs.AddressConstants.{held}

pub held_is : (r : Option ℤ) (z : ℤ) → SomeIff r (FitsSigned w64 z) z → r ≡ held z
held_is None z h = grind (arith, ints)
held_is (Some x) z h = grind (arith, ints)

pub sum : (r : Option ℤ) (x y : ℤ) → SomeIff r (FitsSigned w64 (x +ℤ y)) (x +ℤ y) → r ≡ held (x +ℤ y)
sum r x y h = held_is r (x +ℤ y) h

pub difference : (r : Option ℤ) (x y : ℤ) → SomeIff r (FitsSigned w64 (x -ℤ y)) (x -ℤ y) → r ≡ held (x -ℤ y)
difference r x y h = held_is r (x -ℤ y) h

pub product : (r : Option ℤ) (x y : ℤ) → SomeIff r (FitsSigned w64 (x *ℤ y)) (x *ℤ y) → r ≡ held (x *ℤ y)
product r x y h = held_is r (x *ℤ y) h
