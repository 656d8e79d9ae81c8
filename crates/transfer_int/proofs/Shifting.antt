-- The rows of shifts.
use Rattle.std.proofs.Common.{◌≡◌, nat_abs, ℕ, ◌≤◌, ◌^◌, ℤ, pos, negsuc, ◌+ℤ◌, ◌-ℤ◌, ◌*ℤ◌, ◌≤ℤ◌, true, false, refl, sym, ap, ◌∙◌, subst, arith}
use Rattle.std.specs.Prelude as P
use Rattle.std.specs.Prelude.{◌<ℤ◌, ◌↔◌, IsTrue, int_le, int_lt, unsigned_abs}
use Rattle.std.proofs.lemmas.Int.{ints}
use Rattle.std.proofs.Math.Nat.{mul-le-mul_left}
use Rattle.strided_dom.specs.Progression.{Progression, empty, Has, IsExactly, first_of, last_of, stride_of}
use Rattle.strided_dom.proofs.Members.{has_last, has_next, spaced_from}
use Rattle.interval_dom.specs.Interval.{Span, InInterval, HasCounts, span_of}
use Rattle.interval_dom.specs.declared.intervals.Interval.{Interval}
use Rattle.interval_dom.specs.Rows as I
use Rattle.interval_dom.proofs.Guarded.{both_true, is_le}
use Rattle.interval_dom.proofs.Floors.{shr_holds, shl_holds}
use Rattle.tm_numbers.specs.Powers.{power}
use Rattle.congruence_dom.specs.Class.{InClass}
use Rattle.tm_numbers.specs.Divisors.{Divides, int_gcd}
use Rattle.congruence_dom.specs.Laws.{DividesAll}
use Rattle.congruence_dom.specs.Rows as C
use Rattle.congruence_dom.specs.declared.classes.Cong.{Cong}
use Rattle.tm_numbers.proofs.Divisibility.{divides_same, divides_add, divides_sub, divides_trans}
use Rattle.tm_numbers.proofs.Divisibility.{divides_product, divides_scaled}
use Rattle.tm_numbers.proofs.Gcds.{is_greatest}
use Rattle.tm_numbers.proofs.Integers.{sub_mul}
use Rattle.congruence_dom.proofs.Quotients.{power_not_zero}
use Rattle.tm_cint.proofs.Values.{int_shr-in}
use Rattle.tm_cint.proofs.Wide.{power_at_most}
use Rattle.tm_cint.specs.IntTypes.{IsIn, width_of, hi_of}
use Rattle.tm_cint.specs.Operators.{is_count}
use Rattle.tm_cint.specs.declared.int_types.IntType.{IntType}
use Rattle.tm_cint.specs.declared.int_types.IntType.TheVariants.{Char, UChar, Short, UShort, Int, UInt, Long, ULong, LLong, ULLong, Bool as BoolType}
use Rattle.transfer_int.specs.reading.Fittings.{AreRows}
use Rattle.transfer_int.specs.Operands.{AreValues, IsCount, IsShifted, IsResult, span_of_set, class_of_set}
use Rattle.transfer_int.specs.reading.Parts.{IsPart, IsLeastSpan}
use Rattle.transfer_int.specs.reading.Quotients.{IsCommonDivisor}
use Rattle.transfer_int.specs.reading.Shifts.{AreShiftCounts}
use Rattle.transfer_int.specs.Rows.{InLeftShiftClass, InLeftShifts, InRightShiftClass, InRightShifts}
use Rattle.transfer_int.proofs.BitSets.{le_is, true_both}
use Rattle.transfer_int.proofs.Holding.{powers_divide}
use Rattle.transfer_int.proofs.Inside.{none_in}
use Rattle.transfer_int.proofs.Placing.{ends_of}
use Rattle.transfer_int.proofs.RowPairs.{length_of}
use Rattle.transfer_int.proofs.Sets.{in_span, in_class}
use Rattle.transfer_int.proofs.Spans.{ends_least, same_least, rows_of}

-- ---- parts

pub naturals_are : (t : IntType) (a s : Progression) (low high : ℤ) → AreValues t a → low ≡ pos 0 → high ≡ hi_of t → IsExactly (IsPart a low high) s → IsExactly (IsShifted a) s
naturals_are t a s low high values e f exact = record {
  sound = λ v h. (let p = exact.sound v h in record { member = p.member; not_negative = omega (arith, ints, p.from, e) });
  complete = λ v h. exact.complete v (record { member = h.member; from = omega (arith, ints, h.not_negative, e); to = omega (arith, ints, (values.all v h.member).at_most, f) });
}

lt_is : (p q : ℤ) → p <ℤ q → int_lt p q ≡ true
lt_is p q h = grind (arith, ints)

is_lt : (p q : ℤ) → int_lt p q ≡ true → p <ℤ q
is_lt p q h = grind (arith, ints)

count_between : (t : IntType) (y : ℤ) → is_count t y ≡ true → (pos 0 ≤ℤ y) × (y <ℤ pos (width_of t))
count_between t y e = let h = both_true (int_le (pos 0) y) (int_lt y (pos (width_of t))) e in (is_le (pos 0) y h.0, is_lt y (pos (width_of t)) h.1)

pub counts_are : (t : IntType) (b s : Progression) (low high : ℤ) → low ≡ pos 0 → high ≡ pos (width_of t) -ℤ pos 1 → IsExactly (IsPart b low high) s → IsExactly (IsCount t b) s
counts_are t b s low high e f exact = record {
  sound = λ v h.
      (let p = exact.sound v h in
      record { member = p.member; count = true_both _ _ (le_is (pos 0) v (omega (arith, ints, p.from, e))) (lt_is v (pos (width_of t)) (omega (arith, ints, p.to, f))) });
  complete = λ v h. (let k = count_between t v h.count in exact.complete v (record { member = h.member; from = omega (arith, ints, k.0, e); to = omega (arith, ints, k.1, f) }));
}

-- ---- one count

pub one_count : (c : Progression) → Has c (first_of c) → AreShiftCounts c → (n : ℕ) → ((y : ℤ) → Has c y → unsigned_abs y ≡ n) → first_of c ≡ last_of c
one_count c q counts n same =
    let l = has_last c q in
    omega (arith, ints, same (first_of c) q, same (last_of c) l, (counts.all (first_of c) q).0, (counts.all (last_of c) l).0)

only_count : (c : Progression) → Has c (first_of c) → first_of c ≡ last_of c → (y : ℤ) → Has c y → unsigned_abs y ≡ unsigned_abs (first_of c)
only_count c q one y h = let r = spaced_from c y h in let e : y ≡ first_of c = omega (arith, ints, r.from, r.to, one) in ap nat_abs e

-- ---- left: the class

module _ (s c : Progression) (p : Has s (first_of s)) (q : Has c (first_of c)) (counts : AreShiftCounts c) where
  -- the least count, and the class of the numbers
  abbrev Least : ℕ
  Least = unsigned_abs (first_of c)

  abbrev Shifted : ℤ → Type 0
  Shifted = InLeftShiftClass (Has s) (Has c)

  all_first : (d : ℤ) → ((x : ℤ) → Has s x → Divides d x) → Divides d (first_of s)
  all_first d h = h (first_of s) p

  all_stride : (d x : ℤ) → ((z : ℤ) → Has s z → Divides d (z -ℤ x)) → Divides d (pos (stride_of s))
  all_stride d x h = divides_same d (omega (arith, ints)) (divides_sub d ((first_of s +ℤ pos (stride_of s)) -ℤ x) (first_of s -ℤ x) (h _ (has_next s p)) (h _ p))

  from_zero : (d : ℤ) → ((x : ℤ) → Has s x → Divides d x) → (x : ℤ) → Has s x → Divides d (x -ℤ pos 0)
  from_zero d h x k = divides_same d (omega (arith, ints)) (h x k)

  least_below : (y : ℤ) → Has c y → Least ≤ unsigned_abs y
  least_below y h = let u = counts.all (first_of c) q in let v = (spaced_from c y h).from in omega (arith, ints, u.0, v)

  -- by counts of which there may be many
  pub from_many : (k : Cong) → k ≡ C.shl_from_row (class_of_set s) Least → ((first_of c ≡ last_of c) → ⊥) → (v : ℤ) → (InClass k v → Shifted v) × (Shifted v → InClass k v)
  from_many k e many v = (
    λ h. (let g : Divides (int_gcd (pos (stride_of s)) (first_of s) *ℤ power Least) (v -ℤ pos 0) = subst (λ x. InClass x v) e h in record {
      multiple = λ d n all low.
          (let m = is_greatest.greatest d (pos (stride_of s)) (first_of s) (all_stride d (pos 0) (from_zero d all)) (all_first d all) in
          let r = divides_product d (power n) (int_gcd (pos (stride_of s)) (first_of s)) (power Least) m (powers_divide n Least (low (first_of c) q)) in
          divides_same (d *ℤ power n) (omega (arith, ints)) (divides_trans (d *ℤ power n) _ (v -ℤ pos 0) r g));
      exact = λ n m x same here near. absurd (many (one_count c q counts n same));
    }),
    λ h. subst (λ x. InClass x v) (sym e)
        (divides_same (int_gcd (pos (stride_of s)) (first_of s) *ℤ power Least) (omega (arith, ints)) (h.multiple (int_gcd (pos (stride_of s)) (first_of s)) Least all_divided least_below)),
  )
    where
      all_divided : (x : ℤ) → Has s x → Divides (int_gcd (pos (stride_of s)) (first_of s)) x
      all_divided x h =
          let g = int_gcd (pos (stride_of s)) (first_of s) in
          divides_same g (omega (arith, ints)) (divides_add g (x -ℤ first_of s) (first_of s)
          (divides_trans g (pos (stride_of s)) (x -ℤ first_of s) (is_greatest.left (pos (stride_of s)) (first_of s)) (in_class s x h)) (is_greatest.right (pos (stride_of s)) (first_of s)))

  -- by one count
  pub from_one : (k : Cong) → k ≡ C.shl_row (class_of_set s) Least → first_of c ≡ last_of c → (v : ℤ) → (InClass k v → Shifted v) × (Shifted v → InClass k v)
  from_one k e one v = (
    λ h. (let g : Divides (pos (stride_of s) *ℤ power Least) (v -ℤ first_of s *ℤ power Least) = subst (λ x. InClass x v) e h in record {
      multiple = λ d n all low.
          (let w = powers_divide n Least (low (first_of c) q) in
          let r = divides_product d (power n) (pos (stride_of s)) (power Least) (all_stride d (pos 0) (from_zero d all)) w in
          let f = divides_product d (power n) (first_of s) (power Least) (all_first d all) w in
          divides_same (d *ℤ power n) (omega (arith, ints))
          (divides_add (d *ℤ power n) (v -ℤ first_of s *ℤ power Least) (first_of s *ℤ power Least) (divides_trans (d *ℤ power n) _ _ r g) f));
      exact = λ n m x same here near.
          (let r = divides_scaled m (pos (stride_of s)) (power Least) (all_stride m x near) in
          let f = divides_scaled m (first_of s -ℤ x) (power Least) (near (first_of s) p) in
          let sum = divides_same (m *ℤ power Least) (omega (arith, ints, sub_mul (first_of s) x (power Least)))
          (divides_add (m *ℤ power Least) (v -ℤ first_of s *ℤ power Least) ((first_of s -ℤ x) *ℤ power Least) (divides_trans (m *ℤ power Least) _ _ r g) f) in
          subst (λ w. Divides (m *ℤ power w) (v -ℤ x *ℤ power w)) (same (first_of c) q) sum);
    }),
    λ h. subst (λ x. InClass x v) (sym e) (h.exact Least (pos (stride_of s)) (first_of s) (only_count c q one) p (in_class s)),
  )

-- the class of the numbers that are shifted
pub class_of_parts : (P Q R S : ℤ → Type 0) (v : ℤ) → ((x : ℤ) → (P x → R x) × (R x → P x)) → ((x : ℤ) → (Q x → S x) × (S x → Q x)) → InLeftShiftClass P Q v → InLeftShiftClass R S v
class_of_parts P Q R S v e f h = record {
  multiple = λ d n k l. h.multiple d n (λ x i. k x ((e x).0 i)) (λ y i. l y ((f y).0 i));
  exact = λ n m x k i l. h.exact n m x (λ y j. k y ((f y).0 j)) ((e x).1 i) (λ z j. l z ((e z).0 j));
}

pub same_class_row : (of : Cong → ℕ → Cong) (r k l : Cong) (m n : ℕ) → r ≡ of k m → k ≡ l → m ≡ n → r ≡ of l n
same_class_row of r k l m n e f g = e ∙ ap (λ x. of x m) f ∙ ap (λ x. of l x) g

-- ---- counts

width_most : (t : IntType) → width_of t ≤ 64
width_most BoolType = omega arith
width_most Char = omega arith
width_most UChar = omega arith
width_most Short = omega arith
width_most UShort = omega arith
width_most Int = omega arith
width_most UInt = omega arith
width_most Long = omega arith
width_most ULong = omega arith
width_most LLong = omega arith
width_most ULLong = omega arith

pub are_counts : (t : IntType) (b c : Progression) → IsExactly (IsCount t b) c → AreShiftCounts c
are_counts t b c exact = record { all = λ y h. (let k = count_between t y (exact.sound y h).count in (k.0, omega (arith, ints, k.1, width_most t))) }

pub counts_span : (c : Progression) (i : Interval) → AreShiftCounts c → Has c (first_of c) → span_of i ≡ span_of_set c → HasCounts i
counts_span c i counts q e =
    let l = ap (λ (s : Span). s.lo) e in
    let h = ap (λ (s : Span). s.hi) e in
    record { low = omega (arith, ints, l, (counts.all (first_of c) q).0); high = omega (arith, ints, h, (counts.all (last_of c) (has_last c q)).1) }

-- ---- left: both rows

pub natural_values : (t : IntType) (a s : Progression) → AreValues t a → IsExactly (IsShifted a) s → AreValues t s
natural_values t a s values exact = record { all = λ x h. values.all x (exact.sound x h).member }

pub naturals_low : (a s : Progression) (i : Interval) → IsExactly (IsShifted a) s → Has s (first_of s) → span_of i ≡ span_of_set s → pos 0 ≤ℤ i.lo
naturals_low a s i exact p e = let l = ap (λ (s : Span). s.lo) e in omega (arith, ints, l, (exact.sound (first_of s) p).not_negative)

left_least : (s c : Progression) (i j r : Span) → Has s (first_of s) → Has c (first_of c) → pos 0 ≤ℤ first_of s → pos 0 ≤ℤ first_of c → i ≡ span_of_set s → j ≡ span_of_set c
    → r ≡ I.shl_row i j → IsLeastSpan (IsResult I.shift_left (Has s) (Has c)) r
left_least s c i j r p q m n e f g = subst (λ x. IsLeastSpan Shifted x) (sym (g ∙ ap (λ x. I.shl_row x j) e ∙ ap (λ x. I.shl_row (span_of_set s) x) f)) least
  where
    Shifted : ℤ → Type 0
    Shifted = IsResult I.shift_left (Has s) (Has c)

    within : (z : ℤ) → Shifted z → InInterval (I.shl_row (span_of_set s) (span_of_set c)) z
    within z h =
        subst (λ w. InInterval (I.shl_row (span_of_set s) (span_of_set c)) w) (sym h.is)
        (shl_holds (span_of_set s) (span_of_set c) h.left h.right (m, n) tt (in_span s h.left h.in_left) (in_span c h.right h.in_right))

    least : IsLeastSpan Shifted (I.shl_row (span_of_set s) (span_of_set c))
    least = record {
      least = record { member = record { left = first_of s; right = first_of c; in_left = p; in_right = q; is = refl }; bound = λ y h. (within y h).low };
      greatest = record { member = record { left = last_of s; right = last_of c; in_left = has_last s p; in_right = has_last c q; is = refl }; bound = λ y h. (within y h).high };
    }

shifted_bound : (x y : ℤ) → pos 0 ≤ℤ x → x <ℤ pos (2 ^ 64) → 2 ^ unsigned_abs y ≤ 9223372036854775808 → (pos 0 ≤ℤ I.shift_left x y) × (I.shift_left x y <ℤ pos (2 ^ 127))
shifted_bound (pos m) y h k l = let e = mul-le-mul_left m l in (omega (arith, ints), omega (arith, ints, e, k))
shifted_bound (negsuc m) y h k l = absurd (omega (arith, ints, h))

left_narrow : (t : IntType) (a b : Progression) (i : Interval) → AreValues t a → IsLeastSpan (IsResult I.shift_left (IsShifted a) (IsCount t b)) (span_of i) → (i.hi -ℤ i.lo) <ℤ pos (2 ^ 127)
left_narrow t a b i values h = omega (arith, ints, bounds i.lo h.least.member, bounds i.hi h.greatest.member)
  where
    bounds : (z : ℤ) → IsResult I.shift_left (IsShifted a) (IsCount t b) z → (pos 0 ≤ℤ z) × (z <ℤ pos (2 ^ 127))
    bounds z r =
        let v = values.all r.left r.in_left.member in
        let k = shifted_bound r.left r.right r.in_left.not_negative (omega (arith, ints, v.at_most, ends_of t)) (power_at_most t r.right r.in_right.count) in
        (omega (arith, ints, r.is, k.0), omega (arith, ints, r.is, k.1))

pub left_rows_are : (t : IntType) (a b s c : Progression) (i j r : Interval) (k : Cong) → AreValues t a → IsExactly (IsShifted a) s → IsExactly (IsCount t b) c
    → Has s (first_of s) → Has c (first_of c) → span_of i ≡ span_of_set s → span_of j ≡ span_of_set c → span_of r ≡ I.shl_row (span_of i) (span_of j)
    → ((v : ℤ) → (InClass k v → InLeftShiftClass (Has s) (Has c) v) × (InLeftShiftClass (Has s) (Has c) v → InClass k v)) → AreRows (InLeftShifts t a b) r k
left_rows_are t a b s c i j r k values naturals counts p q e f g class =
    rows_of Result Class (InLeftShifts t a b) r k (λ v h. (h.between, h.class)) (λ v h m. record { between = h; class = m })
    least moved (left_narrow t a b r values least)
  where
    Result : ℤ → Type 0
    Result = IsResult I.shift_left (IsShifted a) (IsCount t b)

    Class : ℤ → Type 0
    Class = InLeftShiftClass (IsShifted a) (IsCount t b)

    least : IsLeastSpan Result (span_of r)
    least =
        same_least (IsResult I.shift_left (Has s) (Has c)) Result (span_of r)
        (λ z h. record { left = h.left; right = h.right; in_left = naturals.sound h.left h.in_left; in_right = counts.sound h.right h.in_right; is = h.is })
        (λ z h. record { left = h.left; right = h.right; in_left = naturals.complete h.left h.in_left; in_right = counts.complete h.right h.in_right; is = h.is })
        (left_least s c (span_of i) (span_of j) (span_of r) p q (naturals.sound (first_of s) p).not_negative (count_between t (first_of c) (counts.sound (first_of c) q).count).0 e f g)

    moved : (v : ℤ) → (InClass k v → Class v) × (Class v → InClass k v)
    moved v = (
      λ h. class_of_parts (Has s) (Has c) (IsShifted a) (IsCount t b) v (λ x. (naturals.sound x, naturals.complete x)) (λ y. (counts.sound y, counts.complete y)) ((class v).0 h),
      λ h. (class v).1 (class_of_parts (IsShifted a) (IsCount t b) (Has s) (Has c) v (λ x. (naturals.complete x, naturals.sound x)) (λ y. (counts.complete y, counts.sound y)) h),
    )

pub no_naturals : (t : IntType) (a b s : Progression) → s ≡ empty → IsExactly (IsShifted a) s → (v : ℤ) → InLeftShifts t a b v → ⊥
no_naturals t a b s e exact v h = let r = h.between.low_is in none_in s r.left e (exact.complete r.left r.in_left)

pub no_counts : (t : IntType) (a b c : Progression) → c ≡ empty → IsExactly (IsCount t b) c → (v : ℤ) → InLeftShifts t a b v → ⊥
no_counts t a b c e exact v h = let r = h.between.low_is in none_in c r.right e (exact.complete r.right r.in_right)

-- ---- right

module _ (a c : Progression) (q : Has c (first_of c)) (counts : AreShiftCounts c) where
  abbrev ShiftedClass : ℤ → Type 0
  ShiftedClass = InRightShiftClass a (Has c)

  pub right_by_many : (k : Cong) → ((v : ℤ) → InClass k v) → (first_of c ≡ last_of c → ⊥) → (v : ℤ) → (InClass k v → ShiftedClass v) × (ShiftedClass v → InClass k v)
  right_by_many k all many v = (λ h n same d. absurd (many (one_count c q counts n same)), λ h. all v)

  pub right_undivided : (k : Cong) (p : ℤ) (class : Cong) (t : P.Bool) → ((v : ℤ) → InClass k v) → p ≡ power (unsigned_abs (first_of c)) → class ≡ class_of_set a → (IsTrue t ↔ IsCommonDivisor p class) → t ≡ false
      → (v : ℤ) → (InClass k v → ShiftedClass v) × (ShiftedClass v → InClass k v)
  right_undivided k p class t all e f i g v = (λ h n same d. absurd (no n same d), λ h. all v)
    where
      no : (n : ℕ) → ((y : ℤ) → Has c y → unsigned_abs y ≡ n) → DividesAll (power n) (class_of_set a) → ⊥
      no n same d =
          let s : power n ≡ p = ap power (sym (same (first_of c) q)) ∙ sym e in
          let u : IsCommonDivisor (power n) (class_of_set a) = record { not_zero = power_not_zero n; divides = d } in
          let w = i.1 (subst (λ x. IsCommonDivisor x class) s (subst (λ x. IsCommonDivisor (power n) x) (sym f) u)) in
          cc

  pub right_by_one : (k : Cong) → k ≡ C.shr_row (class_of_set a) (unsigned_abs (first_of c)) → first_of c ≡ last_of c → DividesAll (power (unsigned_abs (first_of c))) (class_of_set a)
      → (v : ℤ) → (InClass k v → ShiftedClass v) × (ShiftedClass v → InClass k v)
  right_by_one k e one d v = (
    λ h n same g. subst (λ m. InClass (C.shr_row (class_of_set a) m) v) (same (first_of c) q) (subst (λ x. InClass x v) e h),
    λ h. subst (λ x. InClass x v) (sym e) (h (unsigned_abs (first_of c)) (only_count c q one) d),
  )

pub divides_class : (p : ℤ) (n : ℕ) (k l : Cong) → p ≡ power n → k ≡ l → IsCommonDivisor p k → DividesAll (power n) l
divides_class p n k l e f h = subst (λ x. DividesAll (power n) x) f (subst (λ x. DividesAll x k) e h.divides)

right_narrow : (t : IntType) (a b : Progression) (i : Interval) → AreValues t a → IsLeastSpan (IsResult I.shift_right (Has a) (IsCount t b)) (span_of i) → (i.hi -ℤ i.lo) <ℤ pos (2 ^ 127)
right_narrow t a b i values h = omega (arith, ints, (in_type i.lo h.least.member).at_least, (in_type i.hi h.greatest.member).at_most, length_of t)
  where
    in_type : (z : ℤ) → IsResult I.shift_right (Has a) (IsCount t b) z → IsIn t z
    in_type z r = subst (λ x. IsIn t x) (sym r.is) (int_shr-in t r.left (unsigned_abs r.right) (values.all r.left r.in_left))

pub right_rows_are : (t : IntType) (a b c : Progression) (i j r : Interval) (k : Cong) → AreValues t a → IsExactly (IsCount t b) c → Has a (first_of a) → Has c (first_of c)
    → span_of i ≡ span_of_set a → span_of j ≡ span_of_set c → span_of r ≡ I.shr_row (span_of i) (span_of j)
    → ((v : ℤ) → (InClass k v → InRightShiftClass a (Has c) v) × (InRightShiftClass a (Has c) v → InClass k v)) → AreRows (InRightShifts t a b) r k
right_rows_are t a b c i j r k values counts p q e f g class =
    rows_of Result (InRightShiftClass a (IsCount t b)) (InRightShifts t a b) r k (λ v h. (h.between, h.exact)) (λ v h m. record { between = h; exact = m }) least moved (right_narrow t a b r values least)
  where
    Result : ℤ → Type 0
    Result = IsResult I.shift_right (Has a) (IsCount t b)

    row_is : span_of r ≡ I.shr_row (span_of_set a) (span_of_set c)
    row_is = g ∙ ap (λ x. I.shr_row x (span_of j)) e ∙ ap (λ x. I.shr_row (span_of_set a) x) f

    ends : IsLeastSpan (IsResult I.shift_right (Has a) (Has c)) (I.shr_row (span_of_set a) (span_of_set c))
    ends =
        ends_least I.shift_right a c p q
        (λ x y u v. shr_holds (span_of_set a) (span_of_set c) x y (count_between t (first_of c) (counts.sound (first_of c) q).count).0 tt (in_span a x u) (in_span c y v))

    least : IsLeastSpan Result (span_of r)
    least =
        same_least (IsResult I.shift_right (Has a) (Has c)) Result (span_of r)
        (λ z h. record { left = h.left; right = h.right; in_left = h.in_left; in_right = counts.sound h.right h.in_right; is = h.is })
        (λ z h. record { left = h.left; right = h.right; in_left = h.in_left; in_right = counts.complete h.right h.in_right; is = h.is })
        (subst (λ x. IsLeastSpan (IsResult I.shift_right (Has a) (Has c)) x) (sym row_is) ends)

    moved : (v : ℤ) → (InClass k v → InRightShiftClass a (IsCount t b) v) × (InRightShiftClass a (IsCount t b) v → InClass k v)
    moved v = (λ h n same d. (class v).0 h n (λ y u. same y (counts.sound y u)) d, λ h. (class v).1 (λ n same d. h n (λ y u. same y (counts.complete y u)) d))

pub no_left : (t : IntType) (a b : Progression) → a ≡ empty → (v : ℤ) → InRightShifts t a b v → ⊥
no_left t a b e v h = let r = h.between.low_is in none_in a r.left e r.in_left

pub no_right_counts : (t : IntType) (a b c : Progression) → c ≡ empty → IsExactly (IsCount t b) c → (v : ℤ) → InRightShifts t a b v → ⊥
no_right_counts t a b c e exact v h = let r = h.between.low_is in none_in c r.right e (exact.complete r.right r.in_right)
