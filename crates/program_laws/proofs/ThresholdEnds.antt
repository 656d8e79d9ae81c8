-- Thresholds have the ends of the integer types.
use Rattle.std.specs.Prelude.{◌<◌, ℤ, List, ◌++◌, Contains, refl}
use Rattle.std.specs.List.{flat_map}
use Rattle.std.proofs.Common.{arith}
use Rattle.std.proofs.lemmas.List.Elements.{Contains-append_left, Contains-append_right}
use Rattle.thresholds.specs.tm_cint.declared.int_types.IntType.{IntType}
use Rattle.thresholds.specs.tm_cint.declared.int_types.IntType.TheVariants as Ints
use Rattle.thresholds.specs.tm_cint.IntTypes.{lo_of, hi_of}
use Rattle.thresholds.specs.Thresholds.{Numbers, units, ends_of, all_types, of_length, of_constant, of_given}
use Rattle.thresholds.specs.Thresholds.{thresholds}
use Rattle.thresholds.specs.Thresholds.{AreThresholds}
use Rattle.program_systems.specs.typed_values.Types.{HaveEnds}

least_is : (t : IntType) → Contains (flat_map ends_of all_types) (lo_of t)
unfolding all_types
least_is Ints.Bool = (0, (let z : 0 < 22 = omega (arith) in z), refl)
least_is Ints.Char = (2, (let z : 2 < 22 = omega (arith) in z), refl)
least_is Ints.UChar = (4, (let z : 4 < 22 = omega (arith) in z), refl)
least_is Ints.Short = (6, (let z : 6 < 22 = omega (arith) in z), refl)
least_is Ints.UShort = (8, (let z : 8 < 22 = omega (arith) in z), refl)
least_is Ints.Int = (10, (let z : 10 < 22 = omega (arith) in z), refl)
least_is Ints.UInt = (12, (let z : 12 < 22 = omega (arith) in z), refl)
least_is Ints.Long = (14, (let z : 14 < 22 = omega (arith) in z), refl)
least_is Ints.ULong = (16, (let z : 16 < 22 = omega (arith) in z), refl)
least_is Ints.LLong = (18, (let z : 18 < 22 = omega (arith) in z), refl)
least_is Ints.ULLong = (20, (let z : 20 < 22 = omega (arith) in z), refl)

greatest_is : (t : IntType) → Contains (flat_map ends_of all_types) (hi_of t)
unfolding all_types
greatest_is Ints.Bool = (1, (let z : 1 < 22 = omega (arith) in z), refl)
greatest_is Ints.Char = (3, (let z : 3 < 22 = omega (arith) in z), refl)
greatest_is Ints.UChar = (5, (let z : 5 < 22 = omega (arith) in z), refl)
greatest_is Ints.Short = (7, (let z : 7 < 22 = omega (arith) in z), refl)
greatest_is Ints.UShort = (9, (let z : 9 < 22 = omega (arith) in z), refl)
greatest_is Ints.Int = (11, (let z : 11 < 22 = omega (arith) in z), refl)
greatest_is Ints.UInt = (13, (let z : 13 < 22 = omega (arith) in z), refl)
greatest_is Ints.Long = (15, (let z : 15 < 22 = omega (arith) in z), refl)
greatest_is Ints.ULong = (17, (let z : 17 < 22 = omega (arith) in z), refl)
greatest_is Ints.LLong = (19, (let z : 19 < 22 = omega (arith) in z), refl)
greatest_is Ints.ULLong = (21, (let z : 21 < 22 = omega (arith) in z), refl)

module _ (n : Numbers) where
  -- the ends of the types are among the thresholds
  among : (z : ℤ) → Contains (flat_map ends_of all_types) z → Contains (thresholds n) z
  among z h =
      let ends : List ℤ = units ++ flat_map ends_of all_types in
      let sizes : List ℤ = ends ++ flat_map of_length n.lengths in
      let constants : List ℤ = sizes ++ flat_map of_constant n.constants in
      let labels : List ℤ = constants ++ flat_map of_constant n.labels in
      Contains-append_left labels (flat_map of_given n.given) z
      (Contains-append_left constants (flat_map of_constant n.labels) z
      (Contains-append_left sizes (flat_map of_constant n.constants) z
      (Contains-append_left ends (flat_map of_length n.lengths) z
      (Contains-append_right units (flat_map ends_of all_types) z h))))

  pub have_ends : (marks : List ℤ) → AreThresholds n marks → HaveEnds marks
  have_ends marks are = record {
    least = λ t. (are.same (lo_of t)).1 (among (lo_of t) (least_is t));
    greatest = λ t. (are.same (hi_of t)).1 (among (hi_of t) (greatest_is t));
  }
