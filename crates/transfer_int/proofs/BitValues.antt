-- The bits of numbers that are not negative.
use Rattle.std.proofs.Common.{◌≡◌, ℕ, ◌^◌, ◌<◌, ◌≤◌, ℤ, pos, negsuc, ◌≤ℤ◌, ap, ◌∙◌, arith, bit_and, bit_or, bit_xor}
use Rattle.std.specs.Prelude.{unsigned_abs}
use Rattle.std.specs.Int.{int_max}
use Rattle.std.proofs.lemmas.Int.{ints, clamps}
use Rattle.std.proofs.lemmas.Nat.{pow_pos, and_le_l, and_le_r, or_lt, xor_lt}
use Rattle.std.proofs.lemmas.Grind.{common_steps}
use Rattle.std.proofs.Math.Nat.{mod-eq_of_lt}
use Rattle.strided_dom.specs.Progression.{Progression, Has, first_of, last_of}
use Rattle.interval_dom.specs.Bitwise.{bit_length}
use Rattle.interval_dom.specs.Rows.{ones_over}
use Rattle.interval_dom.proofs.Bits.{or_between, xor_between}
use Rattle.interval_dom.proofs.Lengths.{below_length}
use Rattle.tm_cint.specs.IntTypes.{IsIn, width_of, precision_of, hi_of}
use Rattle.tm_cint.specs.Conversions.{residue, value_of}
use Rattle.tm_cint.specs.Operators.{bitwise}
use Rattle.tm_cint.specs.declared.int_types.IntType.{IntType}
use Rattle.tm_cint.specs.declared.int_types.IntType.TheVariants.{Bool, Char, UChar, Short, UShort, Int, UInt, Long, ULong, LLong, ULLong}
use Rattle.transfer_int.specs.Operands.{span_of_set}
use Rattle.transfer_int.proofs.Sets.{in_span}

below_width : (t : IntType) (n : ℕ) → pos n ≤ℤ hi_of t → n < 2 ^ width_of t
below_width Bool n h = omega (arith, ints, h)
below_width Char n h = omega (arith, ints, h)
below_width UChar n h = omega (arith, ints, h)
below_width Short n h = omega (arith, ints, h)
below_width UShort n h = omega (arith, ints, h)
below_width Int n h = omega (arith, ints, h)
below_width UInt n h = omega (arith, ints, h)
below_width Long n h = omega (arith, ints, h)
below_width ULong n h = omega (arith, ints, h)
below_width LLong n h = omega (arith, ints, h)
below_width ULLong n h = omega (arith, ints, h)

below_precision : (t : IntType) (n : ℕ) → pos n ≤ℤ hi_of t → n < 2 ^ precision_of t
below_precision t n h = omega (arith, ints, h, pow_pos (precision_of t))

within_hi : (t : IntType) (n : ℕ) → n < 2 ^ precision_of t → pos n ≤ℤ hi_of t
within_hi t n h = omega (arith, ints, h)

residue_same : (t : IntType) (n : ℕ) → pos n ≤ℤ hi_of t → residue (width_of t) (pos n) ≡ n
residue_same t n h = mod-eq_of_lt (below_width t n h)

value_same : (t : IntType) (n : ℕ) → pos n ≤ℤ hi_of t → value_of t n ≡ pos n
value_same t n h = grind (arith, common_steps)

pub and_under_left : (t : IntType) (x y : ℤ) → IsIn t x → pos 0 ≤ℤ x → (pos 0 ≤ℤ bitwise bit_and t x y) × (bitwise bit_and t x y ≤ℤ x)
and_under_left t (negsuc n) y h k = absurd (omega (arith, ints, k))
and_under_left t (pos n) y h k =
    let r = residue (width_of t) y in
    let le : bit_and n r ≤ n = and_le_l n r in
    let low : pos (bit_and n r) ≤ℤ hi_of t = omega (arith, ints, le, h.at_most) in
    let e : bitwise bit_and t (pos n) y ≡ pos (bit_and n r) = ap (λ s. value_of t (bit_and s r)) (residue_same t n h.at_most) ∙ value_same t (bit_and n r) low in
    (omega (arith, ints, e), omega (arith, ints, e, le))

pub and_under_right : (t : IntType) (x y : ℤ) → IsIn t y → pos 0 ≤ℤ y → (pos 0 ≤ℤ bitwise bit_and t x y) × (bitwise bit_and t x y ≤ℤ y)
and_under_right t x (negsuc n) h k = absurd (omega (arith, ints, k))
and_under_right t x (pos n) h k =
    let r = residue (width_of t) x in
    let le : bit_and r n ≤ n = and_le_r r n in
    let low : pos (bit_and r n) ≤ℤ hi_of t = omega (arith, ints, le, h.at_most) in
    let e : bitwise bit_and t x (pos n) ≡ pos (bit_and r n) = ap (λ s. value_of t (bit_and r s)) (residue_same t n h.at_most) ∙ value_same t (bit_and r n) low in
    (omega (arith, ints, e), omega (arith, ints, e, le))

of_naturals : (f : ℕ → ℕ → ℕ) → ((k m n : ℕ) → m < 2 ^ k → n < 2 ^ k → f m n < 2 ^ k)
    → (t : IntType) (m n : ℕ) → pos m ≤ℤ hi_of t → pos n ≤ℤ hi_of t → bitwise f t (pos m) (pos n) ≡ pos (f m n)
of_naturals f keeps t m n h k =
    ap (λ s. value_of t (f s (residue (width_of t) (pos n)))) (residue_same t m h)
    ∙ ap (λ s. value_of t (f m s)) (residue_same t n k)
    ∙ value_same t (f m n) (within_hi t (f m n) (keeps (precision_of t) m n (below_precision t m h) (below_precision t n k)))

size_le : (x t : ℤ) → pos 0 ≤ℤ x → x ≤ℤ t → unsigned_abs x ≤ unsigned_abs t
size_le x t h k = omega (arith, ints)

digits_within_left : (p q x : ℤ) → pos 0 ≤ℤ x → x ≤ℤ p → unsigned_abs x < 2 ^ bit_length (unsigned_abs (int_max p q))
digits_within_left p q x h k = omega (arith, size_le x (int_max p q) h (omega (arith, ints, clamps, k)), below_length (unsigned_abs (int_max p q)))

digits_within_right : (p q x : ℤ) → pos 0 ≤ℤ x → x ≤ℤ q → unsigned_abs x < 2 ^ bit_length (unsigned_abs (int_max p q))
digits_within_right p q x h k = omega (arith, size_le x (int_max p q) h (omega (arith, ints, clamps, k)), below_length (unsigned_abs (int_max p q)))

module _ (t : IntType) (a b : Progression) where
  pub or_spread : (x y : ℤ) → IsIn t x → IsIn t y → Has a x → Has b y → pos 0 ≤ℤ first_of a → pos 0 ≤ℤ first_of b
      → (int_max (first_of a) (first_of b) ≤ℤ bitwise bit_or t x y) × (bitwise bit_or t x y ≤ℤ ones_over (span_of_set a) (span_of_set b))
  or_spread (negsuc m) y h k p q i j = absurd (omega (arith, ints, i, (in_span a (negsuc m) p).low))
  or_spread (pos m) (negsuc n) h k p q i j = absurd (omega (arith, ints, j, (in_span b (negsuc n) q).low))
  or_spread (pos m) (pos n) h k p q i j =
      let u = in_span a (pos m) p in
      let w = in_span b (pos n) q in
      let e = of_naturals bit_or or_lt t m n h.at_most k.at_most in
      let s = or_between (pos m) (pos n) _ (omega (arith, ints)) (omega (arith, ints))
      (digits_within_left (last_of a) (last_of b) (pos m) (omega (arith, ints)) u.high) (digits_within_right (last_of a) (last_of b) (pos n) (omega (arith, ints)) w.high) in
      (omega (arith, ints, clamps, e, s.0, s.1, u.low, w.low), omega (arith, ints, e, s.2))

  pub xor_spread : (x y : ℤ) → IsIn t x → IsIn t y → Has a x → Has b y → pos 0 ≤ℤ first_of a → pos 0 ≤ℤ first_of b
      → (pos 0 ≤ℤ bitwise bit_xor t x y) × (bitwise bit_xor t x y ≤ℤ ones_over (span_of_set a) (span_of_set b))
  xor_spread (negsuc m) y h k p q i j = absurd (omega (arith, ints, i, (in_span a (negsuc m) p).low))
  xor_spread (pos m) (negsuc n) h k p q i j = absurd (omega (arith, ints, j, (in_span b (negsuc n) q).low))
  xor_spread (pos m) (pos n) h k p q i j =
      let u = in_span a (pos m) p in
      let w = in_span b (pos n) q in
      let e = of_naturals bit_xor xor_lt t m n h.at_most k.at_most in
      let s = xor_between (pos m) (pos n) _ (omega (arith, ints)) (omega (arith, ints))
      (digits_within_left (last_of a) (last_of b) (pos m) (omega (arith, ints)) u.high) (digits_within_right (last_of a) (last_of b) (pos n) (omega (arith, ints)) w.high) in
      (omega (arith, ints, e), omega (arith, ints, e, s.1))
