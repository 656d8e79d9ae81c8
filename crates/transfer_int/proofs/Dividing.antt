-- The rows of quotients.
use Rattle.std.proofs.Common.{◌≡◌, ◌≢◌, eqb, of_z, FitsSigned, ◌⊎◌, inl, inr, ⊎_elim, ℕ, zero, suc, ◌≤◌, ◌^◌, ℤ, pos, negsuc, ◌-ℤ◌, ◌≤ℤ◌, true, false, refl, sym, ap, ◌∙◌, subst, arith}
use Rattle.std.specs.Prelude as P
use Rattle.std.specs.Prelude.{◌<ℤ◌, ◌↔◌, IsTrue, Option, Some, None, MatchOption, int_div, int_rem, unsigned_abs}
use Rattle.std.specs.Int.{w128, int_max, int_min}
use Rattle.tm_numbers.proofs.Divisibility.{is_by_remainder}
use Rattle.std.proofs.lemmas.Int.{ints}
use Rattle.std.proofs.lemmas.Bool.{eq-eqb, eqb-true}
use Rattle.strided_dom.specs.Progression.{Progression, empty, single, Has, IsExactly, first_of, last_of}
use Rattle.strided_dom.proofs.Members.{has_last}
use Rattle.interval_dom.specs.Interval.{Span, span_of}
use Rattle.interval_dom.specs.declared.intervals.Interval.{Interval}
use Rattle.interval_dom.specs.Rows.{IsOneSided, div_row}
use Rattle.interval_dom.proofs.Quotients.{div_holds}
use Rattle.congruence_dom.specs.Class.{InClass}
use Rattle.tm_numbers.specs.Divisors.{Divides}
use Rattle.congruence_dom.specs.Rows as C
use Rattle.congruence_dom.specs.declared.classes.Cong.{Cong}
use Rattle.tm_cint.proofs.Wide.{int_div_at_most, abs_wide, wide, remainder_fits}
use Rattle.tm_cint.specs.declared.int_types.IntType.{IntType}
use Rattle.transfer_int.specs.reading.Fittings.{AreRows, from_to}
use Rattle.transfer_int.specs.Operands.{AreValues, IsDivisor, IsResult, span_of_set, class_of_set}
use Rattle.transfer_int.specs.reading.Parts.{IsPart, IsLeastSpan}
use Rattle.transfer_int.specs.reading.Quotients.{IsCommonDivisor}
use Rattle.transfer_int.specs.Rows.{InQuotients, InQuotientClass, IsQuotient}
use Rattle.transfer_int.proofs.BitSets.{one_member, le_is}
use Rattle.transfer_int.proofs.Inside.{none_in}
use Rattle.transfer_int.proofs.Placing.{ends_of}
use Rattle.transfer_int.proofs.Sets.{in_span}
use Rattle.transfer_int.proofs.Spans.{ends_least, same_least, joined_least, rows_of}

-- ---- by divisors of one sign

part_side : (b d : Progression) (lo hi : ℤ) → IsExactly (IsPart b lo hi) d → Has d (first_of d) → IsOneSided (from_to lo hi) → IsOneSided (span_of_set d)
part_side b d lo hi e q (inl h) = inl (let m = (e.sound (last_of d) (has_last d q)).to in omega (arith, ints, m, h))
part_side b d lo hi e q (inr h) = inr (let m = (e.sound (first_of d) q).from in omega (arith, ints, m, h))

pub divisors_side : (b d : Progression) (lo hi : ℤ) (i : Span) → IsExactly (IsPart b lo hi) d → Has d (first_of d) → IsOneSided (from_to lo hi) → i ≡ span_of_set d → IsOneSided i
divisors_side b d lo hi i e q s f = subst IsOneSided (sym f) (part_side b d lo hi e q s)

pub quotients_least : (a b d : Progression) (lo hi : ℤ) (i j r : Span) → Has a (first_of a) → Has d (first_of d) → IsExactly (IsPart b lo hi) d → IsOneSided (from_to lo hi)
    → i ≡ span_of_set a → j ≡ span_of_set d → r ≡ div_row i j → IsLeastSpan (IsResult int_div (Has a) (IsPart b lo hi)) r
quotients_least a b d lo hi i j r p q e side f g h =
    let s = part_side b d lo hi e q side in
    let row : r ≡ div_row (span_of_set a) (span_of_set d) = h ∙ ap (λ x. div_row x j) f ∙ ap (λ x. div_row (span_of_set a) x) g in
    let l = ends_least int_div a d p q (λ x y u v. div_holds (span_of_set a) (span_of_set d) x y s tt (in_span a x u) (in_span d y v)) in
    subst (λ x. IsLeastSpan (IsResult int_div (Has a) (IsPart b lo hi)) x) (sym row)
    (same_least (IsResult int_div (Has a) (Has d)) (IsResult int_div (Has a) (IsPart b lo hi)) (div_row (span_of_set a) (span_of_set d))
    (λ z k. record { left = k.left; right = k.right; in_left = k.in_left; in_right = e.sound k.right k.in_right; is = k.is })
    (λ z k. record { left = k.left; right = k.right; in_left = k.in_left; in_right = e.complete k.right k.in_right; is = k.is }) l)

pub no_divisors : (a b d : Progression) (lo hi : ℤ) → d ≡ empty → IsExactly (IsPart b lo hi) d → (v : ℤ) → IsResult int_div (Has a) (IsPart b lo hi) v → ⊥
no_divisors a b d lo hi e exact v h = none_in d h.right e (exact.complete h.right h.in_right)

-- ---- by all

-- the divisors below 0 and those above are all
module _ (a b : Progression) (values : (y : ℤ) → Has b y → (negsuc 18446744073709551615 ≤ℤ y) × (y ≤ℤ pos 18446744073709551616)) where
  abbrev Below : ℤ → Type 0
  Below = IsResult int_div (Has a) (IsPart b (negsuc 18446744073709551615) (negsuc 0))

  abbrev Above : ℤ → Type 0
  Above = IsResult int_div (Has a) (IsPart b (pos 1) (pos 18446744073709551616))

  from_below : (z : ℤ) → Below z → IsQuotient a b z
  from_below z h = record { left = h.left; right = h.right; in_left = h.in_left; in_right = record { member = h.in_right.member; not_zero = λ e. omega (arith, ints, e, h.in_right.to) }; is = h.is }

  from_above : (z : ℤ) → Above z → IsQuotient a b z
  from_above z h = record { left = h.left; right = h.right; in_left = h.in_left; in_right = record { member = h.in_right.member; not_zero = λ e. omega (arith, ints, e, h.in_right.from) }; is = h.is }

  on_a_side : (y : ℤ) → IsDivisor b y → IsPart b (negsuc 18446744073709551615) (negsuc 0) y ⊎ IsPart b (pos 1) (pos 18446744073709551616) y
  on_a_side (negsuc n) h = inl (record { member = h.member; from = (values (negsuc n) h.member).0; to = omega (arith, ints) })
  on_a_side (pos zero) h = absurd (h.not_zero refl)
  on_a_side (pos (suc n)) h = inr (record { member = h.member; from = omega (arith, ints); to = (values (pos (suc n)) h.member).1 })

  of_a_side : (z : ℤ) → IsQuotient a b z → Below z ⊎ Above z
  of_a_side z h =
      ⊎_elim (λ k. inl (record { left = h.left; right = h.right; in_left = h.in_left; in_right = k; is = h.is })) (λ k. inr (record { left = h.left; right = h.right; in_left = h.in_left; in_right = k; is = h.is }))
      (on_a_side h.right h.in_right)

  abbrev Spanned : (ℤ → Type 0) → Option Interval → Type 0
  Spanned P o = MatchOption o ((v : ℤ) → P v → ⊥) (λ i. IsLeastSpan P (span_of i))

  pub above_alone : (o : Option Interval) → ((v : ℤ) → Below v → ⊥) → Spanned Above o → Spanned (IsQuotient a b) o
  above_alone None none h = λ v q. ⊎_elim (none v) (h v) (of_a_side v q)
  above_alone (Some i) none h = same_least Above (IsQuotient a b) (span_of i) from_above (λ z q. ⊎_elim (λ k. absurd (none z k)) (λ k. k) (of_a_side z q)) h

  pub below_alone : (o : Option Interval) → ((v : ℤ) → Above v → ⊥) → Spanned Below o → Spanned (IsQuotient a b) o
  below_alone None none h = λ v q. ⊎_elim (h v) (none v) (of_a_side v q)
  below_alone (Some i) none h = same_least Below (IsQuotient a b) (span_of i) from_below (λ z q. ⊎_elim (λ k. k) (λ k. absurd (none z k)) (of_a_side z q)) h

  pub on_both_sides : (i j k : Interval) → IsLeastSpan Below (span_of i) → IsLeastSpan Above (span_of j) → k.lo ≡ int_min i.lo j.lo → k.hi ≡ int_max i.hi j.hi → IsLeastSpan (IsQuotient a b) (span_of k)
  on_both_sides i j k h l e f = joined_least Below Above (IsQuotient a b) (span_of i) (span_of j) (span_of k) from_below from_above of_a_side h l e f

-- ---- the class

zero_bits : (r : ℤ) → FitsSigned w128 r → (eqb (of_z w128 r) 0 ≡ true → r ≡ pos 0) × (r ≡ pos 0 → eqb (of_z w128 r) 0 ≡ true)
zero_bits r f = (λ e. (let h : of_z w128 r ≡ 0 = eqb-true (of_z w128 r) 0 e in omega (arith, ints, h)), λ e. (let h : of_z w128 r ≡ 0 = omega (arith, ints, e) in eq-eqb (of_z w128 r) 0 h))

pub divides_by_rest : (d z : ℤ) → d ≢ pos 0 → FitsSigned w128 z → (IsTrue (eqb (of_z w128 (int_rem z d)) 0) ↔ Divides d z)
divides_by_rest d z n f =
    let b = zero_bits (int_rem z d) (remainder_fits z d f) in
    let r = is_by_remainder d z n in
    (λ e. r.0 (b.0 e), λ h. b.1 (r.1 h))

pub divides_both : (d : ℤ) (k : Cong) (p q : P.Bool) → d ≢ pos 0 → (IsTrue p ↔ Divides d k.residue) → p ≡ true → (IsTrue q ↔ Divides d k.modulus) → (IsTrue q ↔ IsCommonDivisor d k)
divides_both d k p q n h e i = (λ f. record { not_zero = n; divides = (h.0 e, i.0 f) }, λ g. i.1 g.divides.1)

same_number : (x y : ℤ) → single x ≡ single y → x ≡ y
same_number x y e = cc

pub by_one_divisor : (a b : Progression) (d : ℤ) (k : Cong) → b ≡ single d → IsCommonDivisor d (class_of_set a) → k ≡ C.div_row (class_of_set a) d
    → (v : ℤ) → (InClass k v → InQuotientClass a b v) × (InQuotientClass a b v → InClass k v)
by_one_divisor a b d k one h e v = (
  λ p x f n m. (let s : d ≡ x = same_number d x (sym one ∙ f) in subst (λ w. InClass (C.div_row (class_of_set a) w) v) s (subst (λ w. InClass w v) e p)),
  λ q. subst (λ w. InClass w v) (sym e) (q d one h.not_zero h.divides),
)

-- where there is no such divisor
pub by_many : (a b : Progression) (k : Cong) → ((v : ℤ) → InClass k v) → ((d : ℤ) → b ≡ single d → IsCommonDivisor d (class_of_set a) → ⊥)
    → (v : ℤ) → (InClass k v → InQuotientClass a b v) × (InQuotientClass a b v → InClass k v)
by_many a b k all none v = (λ p d f n m. absurd (none d f (record { not_zero = n; divides = m })), λ q. all v)

pub not_one_number : (a b : Progression) (lo hi : ℤ) → lo ≡ first_of b → hi ≡ last_of b → (lo ≡ hi → ⊥) → (d : ℤ) → b ≡ single d → IsCommonDivisor d (class_of_set a) → ⊥
unfolding first_of last_of
not_one_number a b lo hi e f apart d one h = apart (e ∙ ap first_of one ∙ sym (ap last_of one) ∙ sym f)

pub not_this_divisor : (a b : Progression) (lo : ℤ) (k : Cong) (t : P.Bool) → lo ≡ first_of b → k ≡ class_of_set a → (IsTrue t ↔ IsCommonDivisor lo k) → t ≡ false → (d : ℤ) → b ≡ single d → IsCommonDivisor d (class_of_set a) → ⊥
unfolding first_of
not_this_divisor a b lo k t e f i n d one h =
    let s : lo ≡ d = e ∙ ap first_of one in
    let g = i.1 (subst (λ x. IsCommonDivisor x k) (sym s) (subst (λ x. IsCommonDivisor d x) (sym f) h)) in
    absurd cc

pub one_number : (b : Progression) (lo hi : ℤ) → Has b (first_of b) → lo ≡ first_of b → hi ≡ last_of b → lo ≡ hi → b ≡ single lo
one_number b lo hi q e f g = one_member b q (le_is (last_of b) (first_of b) (omega (arith, ints, e, f, g))) ∙ ap single (sym e)

-- ---- both rows

pub quotient_narrow : (t : IntType) (a b : Progression) (i : Interval) → AreValues t a → IsLeastSpan (IsQuotient a b) (span_of i) → (i.hi -ℤ i.lo) <ℤ pos (2 ^ 127)
quotient_narrow t a b i values h = omega (arith, ints, size i.lo h.least.member, size i.hi h.greatest.member)
  where
    of_abs : (z : ℤ) → unsigned_abs z ≤ 18446744073709551615 → (negsuc 18446744073709551615 ≤ℤ z) × (z ≤ℤ pos 18446744073709551615)
    of_abs z h = (omega (arith, ints), omega (arith, ints))

    at_most : (x y z : ℕ) → x ≤ y → y ≤ z → x ≤ z
    at_most x y z h k = omega arith

    size : (z : ℤ) → IsQuotient a b z → (negsuc 18446744073709551615 ≤ℤ z) × (z ≤ℤ pos 18446744073709551615)
    size z h = of_abs z (subst (λ w. unsigned_abs w ≤ 18446744073709551615) (sym h.is) (at_most _ _ _ (int_div_at_most h.left h.right) (abs_wide h.left (wide t h.left (values.all h.left h.in_left)))))

pub quotient_rows_are : (t : IntType) (a b : Progression) (i : Interval) (k : Cong) → AreValues t a → IsLeastSpan (IsQuotient a b) (span_of i)
    → ((v : ℤ) → (InClass k v → InQuotientClass a b v) × (InQuotientClass a b v → InClass k v)) → AreRows (InQuotients a b) i k
quotient_rows_are t a b i k values least class =
    rows_of (IsQuotient a b) (InQuotientClass a b) (InQuotients a b) i k (λ v h. (h.between, h.exact)) (λ v h q. record { between = h; exact = q }) least class (quotient_narrow t a b i values least)

pub type_bounds : (t : IntType) (b : Progression) → AreValues t b → (y : ℤ) → Has b y → (negsuc 18446744073709551615 ≤ℤ y) × (y ≤ℤ pos 18446744073709551616)
type_bounds t b values y h = let v = values.all y h in (omega (arith, ints, v.at_least, ends_of t), omega (arith, ints, v.at_most, ends_of t))
