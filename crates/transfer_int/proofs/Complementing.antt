-- `~` turns each bit over.
use Rattle.std.proofs.Common.{◌≡◌, ℕ, zero, suc, ◌+◌, ◌-◌, ◌/◌, ◌%◌, ◌^◌, ◌<◌, ◌≤◌, ℤ, pos, negsuc, ◌-ℤ◌, ◌≤ℤ◌, refl, ap, sym, ◌∙◌, subst, arith}
use Rattle.std.specs.Int.{bit_at}
use Rattle.std.proofs.Math.Nat.{pow-suc, mod-lt, mod-eq_of_lt}
use Rattle.std.proofs.lemmas.Nat.{pow_pos}
use Rattle.std.proofs.lemmas.Nat.Bits.{bit_at_lowest, bit_at-suc}
use Rattle.std.proofs.lemmas.Int.{ints}
use Rattle.strided_dom.specs.Progression.{Progression, single, Has}
use Rattle.tm_cint.specs.IntTypes.{IsIn, width_of}
use Rattle.tm_cint.specs.Conversions.{residue}
use Rattle.tm_cint.specs.declared.int_types.IntType.{IntType}
use Rattle.tm_cint.specs.declared.int_types.IntType.TheVariants.{Bool, Char, UChar, Short, UShort, Int, UInt, Long, ULong, LLong, ULLong}
use Rattle.tm_cint.specs.declared.Class.TheVariants.{Overflow}
use Rattle.tm_cint.specs.declared.operators.BinOp.TheVariants.{Sub}
use Rattle.tm_cint.proofs.Values.{zero_in, fitted-same}
use Rattle.transfer_int.specs.Values.{ones_of, IsValue}
use Rattle.transfer_int.proofs.Holding.{value_holds}

-- numbers whose sum has all of its w digits 1 differ at each of them
turned_at : (i w m n : ℕ) → i < w → m + n ≡ 2 ^ w - 1 → bit_at m i ≡ 1 - bit_at n i
turned_at i zero m n h e = absurd (omega arith)
turned_at zero (suc w) m n h e =
    let p : 0 < 2 ^ w = pow_pos w in
    let a = bit_at_lowest m in
    let b = bit_at_lowest n in
    omega (arith, pow-suc 2 w, p, a, b, e)
turned_at (suc i) (suc w) m n h e =
    let p : 0 < 2 ^ w = pow_pos w in
    let halves : m / 2 + n / 2 ≡ 2 ^ w - 1 = omega (arith, pow-suc 2 w, p, e) in
    bit_at-suc m i ∙ turned_at i w (m / 2) (n / 2) (omega arith) halves ∙ ap (λ (x : ℕ). 1 - x) (sym (bit_at-suc n i))

-- the bits of -1 - x and of x
sum_signed : (n : ℕ) (x : ℤ) → residue n (negsuc 0 -ℤ x) + residue n x ≡ 2 ^ n - 1
sum_signed n (pos a) =
    let e : negsuc 0 -ℤ pos a ≡ negsuc a = omega (arith, ints) in
    let p : a % 2 ^ n < 2 ^ n = mod-lt a (pow_pos n) in
    subst (λ z. residue n z + residue n (pos a) ≡ 2 ^ n - 1) (sym e) (omega (arith, p))
sum_signed n (negsuc a) =
    let e : negsuc 0 -ℤ negsuc a ≡ pos a = omega (arith, ints) in
    let p : a % 2 ^ n < 2 ^ n = mod-lt a (pow_pos n) in
    subst (λ z. residue n z + residue n (negsuc a) ≡ 2 ^ n - 1) (sym e) (omega (arith, p))

-- and those of the greatest value less x, and of x
sum_unsigned : (n : ℕ) (x : ℤ) → pos 0 ≤ℤ x → x ≤ℤ pos (2 ^ n - 1) → residue n (pos (2 ^ n - 1) -ℤ x) + residue n x ≡ 2 ^ n - 1
sum_unsigned n (negsuc a) low high = absurd (omega (arith, ints))
sum_unsigned n (pos a) low high =
    let p : 0 < 2 ^ n = pow_pos n in
    let le : a ≤ 2 ^ n - 1 = omega (arith, ints, high) in
    let e : pos (2 ^ n - 1) -ℤ pos a ≡ pos (2 ^ n - 1 - a) = omega (arith, ints, le) in
    let q : (2 ^ n - 1 - a) % 2 ^ n ≡ 2 ^ n - 1 - a = mod-eq_of_lt (omega (arith, p)) in
    let r : a % 2 ^ n ≡ a = mod-eq_of_lt (omega (arith, p, le)) in
    subst (λ z. residue n z + residue n (pos a) ≡ 2 ^ n - 1) (sym e) (omega (arith, q, r, le))

sum_is : (t : IntType) (x : ℤ) → IsIn t x → residue (width_of t) (ones_of t -ℤ x) + residue (width_of t) x ≡ 2 ^ width_of t - 1
sum_is Bool x h = sum_unsigned 1 x h.at_least h.at_most
sum_is Char x h = sum_signed 8 x
sum_is UChar x h = sum_unsigned 8 x h.at_least h.at_most
sum_is Short x h = sum_signed 16 x
sum_is UShort x h = sum_unsigned 16 x h.at_least h.at_most
sum_is Int x h = sum_signed 32 x
sum_is UInt x h = sum_unsigned 32 x h.at_least h.at_most
sum_is Long x h = sum_signed 32 x
sum_is ULong x h = sum_unsigned 32 x h.at_least h.at_most
sum_is LLong x h = sum_signed 64 x
sum_is ULLong x h = sum_unsigned 64 x h.at_least h.at_most

pub complement_bits : (t : IntType) (x : ℤ) (i : ℕ) → IsIn t x → i < width_of t
    → bit_at (residue (width_of t) (ones_of t -ℤ x)) i ≡ 1 - bit_at (residue (width_of t) x) i
complement_bits t x i h k = turned_at i (width_of t) _ _ k (sum_is t x h)

pub complement_in : (t : IntType) (x : ℤ) → IsIn t x → IsIn t (ones_of t -ℤ x)
complement_in Bool x h = record { at_least = omega (arith, ints, h.at_most); at_most = omega (arith, ints, h.at_least) }
complement_in Char x h = record { at_least = omega (arith, ints, h.at_most); at_most = omega (arith, ints, h.at_least) }
complement_in UChar x h = record { at_least = omega (arith, ints, h.at_most); at_most = omega (arith, ints, h.at_least) }
complement_in Short x h = record { at_least = omega (arith, ints, h.at_most); at_most = omega (arith, ints, h.at_least) }
complement_in UShort x h = record { at_least = omega (arith, ints, h.at_most); at_most = omega (arith, ints, h.at_least) }
complement_in Int x h = record { at_least = omega (arith, ints, h.at_most); at_most = omega (arith, ints, h.at_least) }
complement_in UInt x h = record { at_least = omega (arith, ints, h.at_most); at_most = omega (arith, ints, h.at_least) }
complement_in Long x h = record { at_least = omega (arith, ints, h.at_most); at_most = omega (arith, ints, h.at_least) }
complement_in ULong x h = record { at_least = omega (arith, ints, h.at_most); at_most = omega (arith, ints, h.at_least) }
complement_in LLong x h = record { at_least = omega (arith, ints, h.at_most); at_most = omega (arith, ints, h.at_least) }
complement_in ULLong x h = record { at_least = omega (arith, ints, h.at_most); at_most = omega (arith, ints, h.at_least) }

ones_in : (t : IntType) → IsIn t (ones_of t)
ones_in t = subst (λ z. IsIn t z) (less_zero (ones_of t)) (complement_in t (pos 0) (zero_in t))
  where
    less_zero : (z : ℤ) → z -ℤ pos 0 ≡ z
    less_zero z = omega (arith, ints)

-- so `~x` is in the value that `invert` gives
pub complement_holds : (t : IntType) (a : Progression) (x : ℤ) → IsIn t x → Has a x → IsValue Sub t (single (ones_of t)) a (ones_of t -ℤ x)
unfolding Has
complement_holds t a x i h =
    value_holds Sub t (single (ones_of t)) a (ones_of t) x (ones_of t -ℤ x) (ones_in t) i refl h (fitted-same Overflow t (ones_of t -ℤ x) (complement_in t x i))
