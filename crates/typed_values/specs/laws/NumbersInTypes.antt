-- What operators give on numbers lies in the type of their result.
use Rattle.std.proofs.Common.{◌≡◌, ℤ, pos, negsuc, ◌≤ℤ◌, List, Result, Ok, true, false, refl, sym, subst, inl, inr}
use Rattle.std.proofs.Common.{⊎_elim, arith}
use Rattle.std.specs.Prelude as P
use Rattle.std.specs.Prelude.{Contains, zero, suc}
use Rattle.std.proofs.lemmas.Int.{ints}
use Rattle.operator_values.specs.strided_dom.Progression.{Progression, single, Has, IsSubset, IsExactly, first_of}
use Rattle.operator_values.specs.strided_dom.Progression.{last_of}
use Rattle.operator_values.specs.strided_dom.Rounding.{IsInRounding, IsLowered, IsRaised}
use Rattle.operator_values.proofs.low.strided_dom.Members.{has_last}
use Rattle.operator_values.specs.pointer_dom.StridedSets.{hull, hull_is, rounding, rounding_is}
use Rattle.operator_values.specs.pointer_dom.PointerSets.{Pointers}
use Rattle.operator_values.specs.pointer_dom.Equality.{IsEqualityOf, IsEqualityValue}
use Rattle.operator_values.specs.pointer_dom.laws.Existence.{spaced_exists}
use Rattle.operator_values.specs.pointer_dom.laws.OffsetLaws.{hull_least}
use Rattle.tm_cint.specs.IntTypes.{IsIn, is_signed, lo_of, hi_of}
use Rattle.tm_cint.specs.Conversions.{truth, is_zero, converted_value}
use Rattle.tm_cint.specs.Operators.{result_type}
use Rattle.tm_cint.specs.declared.Class.{Class}
use Rattle.tm_cint.specs.declared.int_types.IntType.{IntType}
use Rattle.tm_cint.specs.declared.int_types.IntType.TheVariants.{Bool, Char, UChar, Short, UShort, Int, UInt}
use Rattle.tm_cint.specs.declared.int_types.IntType.TheVariants.{Long, ULong, LLong, ULLong}
use Rattle.tm_cint.specs.declared.operators.BinOp.{BinOp}
use Rattle.tm_cint.specs.declared.operators.BinOp.TheVariants.{Add, Sub, Mul, Div, Rem, Shl, Shr, And, Or, Xor}
use Rattle.tm_cint.specs.declared.operators.BinOp.TheVariants.{Lt, Le, Gt, Ge, Eq, Ne}
use Rattle.tm_cint.proofs.Values.{truth-in}
use Rattle.operator_values.specs.transfer_int.Values.{IsFitted, IsWrapped, IsTruth, IsValue, IsConverted}
use Rattle.operator_values.specs.transfer_int.Rows.{InRows}
use Rattle.operator_values.specs.transfer_int.Operands.{AreValues}
use Rattle.operator_values.proofs.low.transfer_int.Inside.{unspaced}
use Rattle.operator_values.specs.Integers.{operated, operated_is, converted, converted_is}
use Rattle.operator_values.specs.SetsOfPointers.{equality, equality_is}

-- a smaller set has values of the type too
pub values_less : (t : IntType) (s u : Progression) → IsSubset s u → AreValues t u → AreValues t s
values_less t s u le h = record { all = λ x p. h.all x (le.within x p) }

-- all values of a type
range_of : (t : IntType) → (r : Progression) × IsExactly (λ v. IsIn t v) r
range_of t =
    let all = spaced_exists (lo_of t) (hi_of t) 1 in (
      all.0,
      unspaced (λ v. IsIn t v) (lo_of t) (hi_of t) all.0 (λ v from to. record { at_least = from; at_most = to })
          (λ v h. (h.at_least, h.at_most)) all.1,
    )

in_range : (t : IntType) (s : Progression) → AreValues t s → IsSubset s (range_of t).0
in_range t s h = record { within = λ v p. (range_of t).1.complete v (h.all v p) }

pub hull_values : (t : IntType) (s u : Progression) → AreValues t s → AreValues t u → AreValues t (hull s u)
hull_values t s u s-in u-in =
    let below = hull_least s u (range_of t).0 (in_range t s s-in) (in_range t u u-in) in
    record { all = λ v p. (range_of t).1.sound v (below.within v p) }

-- rounding stops at the ends of the type
low_within : (least first low : ℤ) (marks : List ℤ) → Contains marks least → least ≤ℤ first
    → IsLowered marks first low → least ≤ℤ low
low_within least first low marks is le (inl greatest) = greatest.bound least (is, le)
low_within least first low marks is le (inr same) = subst (λ z. least ≤ℤ z) (sym same.0) le

high_within : (greatest last high : ℤ) (marks : List ℤ) → Contains marks greatest → last ≤ℤ greatest
    → IsRaised marks last high → high ≤ℤ greatest
high_within greatest last high marks is le (inl least) = least.bound greatest (is, le)
high_within greatest last high marks is le (inr same) = subst (λ z. z ≤ℤ greatest) (sym same.0) le

pub rounding_values : (t : IntType) (marks : List ℤ) (s : Progression) → Contains marks (lo_of t)
    → Contains marks (hi_of t) → AreValues t s
    → AreValues t (rounding marks s)
rounding_values t marks s has_lo has_hi h = record {
  all = λ v p.
      let r = (rounding_is marks s).sound v p in
      let first = h.all (first_of s) r.some in
      let last = h.all (last_of s) (has_last s r.some) in
      let low = low_within (lo_of t) (first_of s) r.low marks has_lo first.at_least r.lowered in
      let high = high_within (hi_of t) (last_of s) r.high marks has_hi last.at_most r.raised in
      record { at_least = omega (arith, ints, low, r.from); at_most = omega (arith, ints, high, r.to) };
}

fitted_in : (t : IntType) (R : ℤ → Type 0) (v : ℤ) → IsFitted t R v → IsIn t v
fitted_in t R v h = by_sign (is_signed t) refl
  where
    by_sign : (s : P.Bool) → is_signed t ≡ s → IsIn t v
    by_sign true e = (h.met e).1
    by_sign false e = (h.wrapped e).in_type

truth_in : (v : ℤ) (b : P.Bool) → (let r : P.Result ℤ Class = Ok (truth b) in r ≡ Ok v) → IsIn Int v
truth_in v b e = subst (λ z. IsIn Int z) (let same : truth b ≡ v = cc in same) (truth-in b)

value_in : (op : BinOp) (t : IntType) (a b : Progression) (v : ℤ) → IsValue op t a b v → IsIn (result_type op t) v
value_in Lt t a b v h = truth_in v _ h.is
value_in Le t a b v h = truth_in v _ h.is
value_in Gt t a b v h = truth_in v _ h.is
value_in Ge t a b v h = truth_in v _ h.is
value_in Eq t a b v h = truth_in v _ h.is
value_in Ne t a b v h = truth_in v _ h.is
value_in Add t a b v h = fitted_in t (InRows Add t a b) v h
value_in Sub t a b v h = fitted_in t (InRows Sub t a b) v h
value_in Mul t a b v h = fitted_in t (InRows Mul t a b) v h
value_in Div t a b v h = fitted_in t (InRows Div t a b) v h
value_in Rem t a b v h = fitted_in t (InRows Rem t a b) v h
value_in Shl t a b v h = fitted_in t (InRows Shl t a b) v h
value_in Shr t a b v h = fitted_in t (InRows Shr t a b) v h
value_in And t a b v h = fitted_in t (InRows And t a b) v h
value_in Or t a b v h = fitted_in t (InRows Or t a b) v h
value_in Xor t a b v h = fitted_in t (InRows Xor t a b) v h

pub operated_values : (op : BinOp) (t : IntType) (a b : Progression) → AreValues (result_type op t) (operated op t a b)
operated_values op t a b = record { all = λ v p. value_in op t a b v ((operated_is op t a b).sound v p) }

zero_or_one : (x : ℤ) → IsIn Bool (converted_value x Bool)
zero_or_one (pos zero) = record { at_least = omega (arith, ints); at_most = omega (arith, ints) }
zero_or_one (pos (suc n)) = record { at_least = omega (arith, ints); at_most = omega (arith, ints) }
zero_or_one (negsuc n) = record { at_least = omega (arith, ints); at_most = omega (arith, ints) }

conversion_in : (t : IntType) (a : Progression) (v : ℤ) → IsConverted t a v → IsIn t v
conversion_in Bool a v h = subst (λ z. IsIn Bool z) (sym h.1.1) (zero_or_one h.0)
conversion_in Char a v h = h.in_type
conversion_in UChar a v h = h.in_type
conversion_in Short a v h = h.in_type
conversion_in UShort a v h = h.in_type
conversion_in Int a v h = h.in_type
conversion_in UInt a v h = h.in_type
conversion_in Long a v h = h.in_type
conversion_in ULong a v h = h.in_type
conversion_in LLong a v h = h.in_type
conversion_in ULLong a v h = h.in_type

pub converted_values : (t : IntType) (a : Progression) → AreValues t (converted t a)
converted_values t a = record { all = λ v p. conversion_in t a v ((converted_is t a).sound v p) }

one_in : (v : ℤ) → v ≡ pos 1 → IsIn Int v
one_in v e = subst (λ z. IsIn Int z) (sym e) (truth-in true)

zero_in : (v : ℤ) → v ≡ pos 0 → IsIn Int v
zero_in v e = subst (λ z. IsIn Int z) (sym e) (truth-in false)

equality_in : (equal : P.Bool) (p q : Pointers) (v : ℤ) → IsEqualityValue equal p q v → IsIn Int v
equality_in true p q v h = ⊎_elim (λ e. one_in v e.0) (λ e. zero_in v e.0) h.truth
equality_in false p q v h = ⊎_elim (λ e. one_in v e.0) (λ e. zero_in v e.0) h.truth

pub equality_values : (equal : P.Bool) (p q : Pointers) → AreValues Int (equality equal p q)
equality_values equal p q = record { all = λ v h. equality_in equal p q v ((equality_is equal p q).sound v h) }
