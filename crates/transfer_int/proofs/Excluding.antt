-- Which classes of errors an operator excludes.
use Rattle.std.proofs.Common.{◌≡◌, ℤ, pos, negsuc, ◌≤ℤ◌, ◌<ℤ◌, true, false, ◌&&◌, refl, arith}
use Rattle.std.specs.Prelude as P
use Rattle.std.specs.Prelude.{IsTrue, int_le, int_lt}
use Rattle.std.proofs.lemmas.Int.{ints}
use Rattle.strided_dom.specs.Progression.{Progression, Has, IsLeastNumber, IsGreatestNumber, first_of}
use Rattle.strided_dom.proofs.Members.{IsSome}
use Rattle.tm_cint.specs.IntTypes.{is_signed, width_of}
use Rattle.tm_cint.specs.Operators.{is_count}
use Rattle.tm_cint.specs.declared.int_types.IntType.{IntType}
use Rattle.transfer_int.proofs.BitSets.{le_is}
use Rattle.transfer_int.specs.Values.{HasZeroDivisor, HasBadCount, ShiftsNegative}

-- a fact that does not hold, and a test that failed
pub never : {X : Type 0} → (X → ⊥) → (IsTrue false → X) × (X → IsTrue false)
never n = (λ e. absurd cc, λ x. absurd (n x))

pub always : {X : Type 0} → X → (IsTrue true → X) × (X → IsTrue true)
always x = (λ e. x, λ y. refl)

-- what a test decides
pub decided : {X : Type 0} (r : P.Bool) → (r ≡ true → X) → (r ≡ false → X → ⊥) → (IsTrue r → X) × (X → IsTrue r)
decided true f g = (λ e. f refl, λ x. refl)
decided false f g = (λ e. absurd cc, λ x. absurd (g refl x))

pub zero_divisor : (a b : Progression) (r : P.Bool) → IsSome a → ((r ≡ true → Has b (pos 0)) × (Has b (pos 0) → r ≡ true))
    → (IsTrue r → HasZeroDivisor a b) × (HasZeroDivisor a b → IsTrue r)
zero_divisor a b r some h = (λ e. record { dividend = first_of a; in_left = some; zero_divisor = h.0 e }, λ d. h.1 d.zero_divisor)

bad_low : (t : IntType) (n : ℤ) → n <ℤ pos 0 → is_count t n ≡ false
bad_low t (pos n) h = absurd (omega (arith, ints, h))
bad_low t (negsuc n) h = refl

both_false : (p q : P.Bool) → q ≡ false → (p && q) ≡ false
both_false true q e = e
both_false false q e = refl

both_true : (p q : P.Bool) → p ≡ true → q ≡ true → (p && q) ≡ true
both_true true q d e = e
both_true false q d e = absurd cc

not_below : (n w : ℤ) → w ≤ℤ n → int_lt n w ≡ false
not_below n w h = by_test (int_lt n w) refl
  where
    by_test : (b : P.Bool) → int_lt n w ≡ b → b ≡ false
    by_test true e = absurd (omega (arith, ints, h, e))
    by_test false e = refl

below : (n w : ℤ) → n <ℤ w → int_lt n w ≡ true
below n w h = by_test (int_lt n w) refl
  where
    by_test : (b : P.Bool) → int_lt n w ≡ b → b ≡ true
    by_test false e = absurd (omega (arith, ints, h, e))
    by_test true e = refl

module _ (t : IntType) (a b : Progression) (some : IsSome a) where
  pub count_below : (n : ℤ) → Has b n → n <ℤ pos 0 → HasBadCount t a b
  count_below n h l = record { left = first_of a; right = n; in_left = some; in_right = h; bad = bad_low t n l }

  pub count_above : (n : ℤ) → Has b n → pos (width_of t) ≤ℤ n → HasBadCount t a b
  count_above n h l = record { left = first_of a; right = n; in_left = some; in_right = h; bad = both_false (int_le (pos 0) n) (int_lt n (pos (width_of t))) (not_below n (pos (width_of t)) l) }

  pub negative_below : (n x : ℤ) → is_signed t ≡ true → Has a n → Has b x → n <ℤ pos 0 → ShiftsNegative t a b
  negative_below n x s h k l = record { signed = s; left = n; right = x; in_left = h; in_right = k; negative = l }

-- all counts lie between the least and the greatest
pub counts_within : (t : IntType) (a b : Progression) (lo hi : ℤ) → IsLeastNumber (Has b) lo → IsGreatestNumber (Has b) hi → pos 0 ≤ℤ lo → hi <ℤ pos (width_of t) → HasBadCount t a b → ⊥
counts_within t a b lo hi least greatest l g h =
    let e = both_true (int_le (pos 0) h.right) (int_lt h.right (pos (width_of t))) (le_is (pos 0) h.right (omega (arith, ints, least.bound h.right h.in_right, l)))
    (below h.right (pos (width_of t)) (omega (arith, ints, greatest.bound h.right h.in_right, g))) in
    let f = h.bad in
    absurd cc

pub none_negative : (t : IntType) (a b : Progression) (lo : ℤ) → IsLeastNumber (Has a) lo → pos 0 ≤ℤ lo → ShiftsNegative t a b → ⊥
none_negative t a b lo least l h = omega (arith, ints, least.bound h.left h.in_left, l, h.negative)
