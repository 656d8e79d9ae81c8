-- Wrapping holds every number, and grows with the set that it wraps.
use Rattle.std.proofs.Common.{◌≡◌, ◌^◌, ℤ, pos, neg_ℤ, ◌+ℤ◌, ◌-ℤ◌, ◌*ℤ◌, Result, Ok, true, false, cond, refl, sym, ◌∙◌, subst, arith}
use Rattle.std.specs.Prelude as P
use Rattle.std.specs.Prelude.{Err}
use Rattle.std.proofs.lemmas.Int.{ints}
use Rattle.strided_dom.specs.Progression.{Progression, Has, IsSubset}
use Rattle.tm_numbers.proofs.Divisibility.{divides_same, divides_times}
use Rattle.tm_numbers.proofs.Integers.{mul_neg}
use Rattle.tm_cint.specs.IntTypes.{IsIn, is_in, is_signed, width_of}
use Rattle.tm_cint.specs.Conversions.{wrapped, converted_value}
use Rattle.tm_cint.specs.Operators.{fitted}
use Rattle.tm_cint.specs.declared.Class.{Class}
use Rattle.tm_cint.specs.declared.int_types.IntType.{IntType}
use Rattle.tm_cint.specs.declared.int_types.IntType.TheVariants.{Bool, Char, UChar, Short, UShort, Int, UInt, Long, ULong, LLong, ULLong}
use Rattle.tm_cint.proofs.Values.{wrapped-in, wrapped-turned}
use Rattle.tm_cint.proofs.Ranges.{IsIn-from_test}
use Rattle.transfer_int.specs.Values.{turns, IsWrapped, IsFitted, IsConverted}

-- two values of a type that differ by turns are the same
unique : (t : IntType) (z w j k : ℤ) → z ≡ w +ℤ j *ℤ pos (2 ^ width_of t) → IsIn t w → IsIn t (z -ℤ turns t k) → w +ℤ turns t k ≡ z
unique Bool z w j k e h i = omega (arith, ints, h.at_least, h.at_most, i.at_least, i.at_most)
unique Char z w j k e h i = omega (arith, ints, h.at_least, h.at_most, i.at_least, i.at_most)
unique UChar z w j k e h i = omega (arith, ints, h.at_least, h.at_most, i.at_least, i.at_most)
unique Short z w j k e h i = omega (arith, ints, h.at_least, h.at_most, i.at_least, i.at_most)
unique UShort z w j k e h i = omega (arith, ints, h.at_least, h.at_most, i.at_least, i.at_most)
unique Int z w j k e h i = omega (arith, ints, h.at_least, h.at_most, i.at_least, i.at_most)
unique UInt z w j k e h i = omega (arith, ints, h.at_least, h.at_most, i.at_least, i.at_most)
unique Long z w j k e h i = omega (arith, ints, h.at_least, h.at_most, i.at_least, i.at_most)
unique ULong z w j k e h i = omega (arith, ints, h.at_least, h.at_most, i.at_least, i.at_most)
unique LLong z w j k e h i = omega (arith, ints, h.at_least, h.at_most, i.at_least, i.at_most)
unique ULLong z w j k e h i = omega (arith, ints, h.at_least, h.at_most, i.at_least, i.at_most)

-- two moves of one number into the type are the same
pub same_turns : (t : IntType) (low first k j : ℤ) → first ≡ low +ℤ turns t k → IsIn t low → IsIn t (first -ℤ turns t j) → turns t k ≡ turns t j
same_turns t low first k j e h i = let u = unique t first low k j e h i in omega (arith, ints, e, u)

apart : (z w j m : ℤ) → z ≡ w +ℤ j *ℤ m → m *ℤ neg_ℤ j ≡ w -ℤ z
apart z w j m e = mul_neg m j ∙ omega (arith, ints)

pub wrapping_holds : (t : IntType) (R : ℤ → Type 0) (z : ℤ) → R z → IsWrapped t R (wrapped t z)
wrapping_holds t R z p =
    let j = wrapped-turned t z in
    record {
      in_type = wrapped-in t z;
      some = z;
      in_rows = p;
      congruent = λ d h all. divides_same d (apart z (wrapped t z) j.0 (pos (2 ^ width_of t)) j.1) (divides_times d (pos (2 ^ width_of t)) (neg_ℤ j.0) h);
      in_turn = λ k all. subst R (sym (unique t z (wrapped t z) j.0 k j.1 (wrapped-in t z) (all z p))) p;
    }

pub wrapping_grows : (t : IntType) (R S : ℤ → Type 0) (v : ℤ) → ((r : ℤ) → R r → S r) → IsWrapped t R v → IsWrapped t S v
wrapping_grows t R S v more h = record {
  in_type = h.in_type;
  some = h.some;
  in_rows = more h.some h.in_rows;
  congruent = λ d k all. h.congruent d k (λ r p. all r (more r p));
  in_turn = λ k all. more _ (h.in_turn k (λ r p. all r (more r p)));
}

pub fitting_grows : (t : IntType) (R S : ℤ → Type 0) (v : ℤ) → ((r : ℤ) → R r → S r) → IsFitted t R v → IsFitted t S v
fitting_grows t R S v more h = record {
  met = λ e. (more v (h.met e).0, (h.met e).1);
  wrapped = λ e. wrapping_grows t R S v more (h.wrapped e);
}

abbrev ok : ℤ → Result ℤ Class
ok x = Ok x

-- where the operator gives the fitted mathematical result, its value holds it
pub fitting_holds : (class : Class) (t : IntType) (R : ℤ → Type 0) (z r : ℤ) → R z → fitted class t z ≡ Ok r → IsFitted t R r
fitting_holds class t R z r p e = by_sign (is_signed t) refl e
  where
    by_test : (b : P.Bool) → is_in t z ≡ b → cond b (Ok z) (Err class) ≡ ok r → R r × IsIn t r
    by_test true h e = let s : z ≡ r = cc in (subst R s p, subst (λ x. IsIn t x) s (IsIn-from_test t z h))
    by_test false h e = absurd cc

    by_sign : (s : P.Bool) → is_signed t ≡ s → cond s (cond (is_in t z) (Ok z) (Err class)) (Ok (wrapped t z)) ≡ ok r → IsFitted t R r
    by_sign true h e = record { met = λ q. by_test (is_in t z) refl e; wrapped = λ q. absurd cc }
    by_sign false h e = record { met = λ q. absurd cc; wrapped = λ q. (let s : wrapped t z ≡ r = cc in subst (λ x. IsWrapped t R x) s (wrapping_holds t R z p)) }

pub conversion_holds : (t : IntType) (a : Progression) (x : ℤ) → Has a x → IsConverted t a (converted_value x t)
conversion_holds Bool a x h = (x, (h, refl))
conversion_holds Char a x h = wrapping_holds Char (Has a) x h
conversion_holds UChar a x h = wrapping_holds UChar (Has a) x h
conversion_holds Short a x h = wrapping_holds Short (Has a) x h
conversion_holds UShort a x h = wrapping_holds UShort (Has a) x h
conversion_holds Int a x h = wrapping_holds Int (Has a) x h
conversion_holds UInt a x h = wrapping_holds UInt (Has a) x h
conversion_holds Long a x h = wrapping_holds Long (Has a) x h
conversion_holds ULong a x h = wrapping_holds ULong (Has a) x h
conversion_holds LLong a x h = wrapping_holds LLong (Has a) x h
conversion_holds ULLong a x h = wrapping_holds ULLong (Has a) x h

pub conversion_grows : (t : IntType) (a c : Progression) (v : ℤ) → IsSubset a c → IsConverted t a v → IsConverted t c v
conversion_grows Bool a c v b h = (h.0, (b.within h.0 h.1.0, h.1.1))
conversion_grows Char a c v b h = wrapping_grows Char (Has a) (Has c) v b.within h
conversion_grows UChar a c v b h = wrapping_grows UChar (Has a) (Has c) v b.within h
conversion_grows Short a c v b h = wrapping_grows Short (Has a) (Has c) v b.within h
conversion_grows UShort a c v b h = wrapping_grows UShort (Has a) (Has c) v b.within h
conversion_grows Int a c v b h = wrapping_grows Int (Has a) (Has c) v b.within h
conversion_grows UInt a c v b h = wrapping_grows UInt (Has a) (Has c) v b.within h
conversion_grows Long a c v b h = wrapping_grows Long (Has a) (Has c) v b.within h
conversion_grows ULong a c v b h = wrapping_grows ULong (Has a) (Has c) v b.within h
conversion_grows LLong a c v b h = wrapping_grows LLong (Has a) (Has c) v b.within h
conversion_grows ULLong a c v b h = wrapping_grows ULLong (Has a) (Has c) v b.within h
