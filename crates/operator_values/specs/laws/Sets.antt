-- Which properties of integers have a strided set with exactly these integers.
use Rattle.std.specs.Prelude.{◌≡◌, ◌≢◌, ◌⊎◌, ℕ, zero, suc, ◌+◌, ◌*◌, ◌%◌, ◌<◌, ◌≤◌, ◌^◌, ℤ, pos, nat_abs, ◌+ℤ◌, ◌-ℤ◌}
use Rattle.std.specs.Prelude.{◌≤ℤ◌, ◌<ℤ◌, unsigned_abs, true, false, List, [], ◌∷◌}
use Rattle.std.specs.Prelude as P
use Rattle.std.proofs.Common.{inl, inr, ⊎_elim, refl, sym, ◌∙◌, subst, arith}
use Rattle.std.specs.Int.{int_min}
use Rattle.std.proofs.lemmas.Int.{ints, clamps, by_lt_z}
use Rattle.filters.specs.strided_dom.Progression.{Progression, empty, single, Has, IsExactly, IsSpaced, first_of}
use Rattle.filters.specs.strided_dom.Progression.{last_of}
use Rattle.filters.specs.strided_dom.Progression.{stride_of}
use Rattle.filters.specs.strided_dom.Combinations.{IsInBoth}
use Rattle.filters.specs.strided_dom.reading.Classes.{IsInClassBetween}
use Rattle.filters.proofs.low.strided_dom.Members.{some_or_empty, spaced_from, has_from, first_le_last}
use Rattle.filters.proofs.low.strided_dom.Spans.{exactly_same, exactly_empty}
use Rattle.filters.proofs.low.strided_dom.Thresholds.{class_by_rest, class_exactly}
use Rattle.tm_cint.specs.tm_numbers.Divisors.{gcd}
use Rattle.tm_cint.proofs.low.tm_numbers.Congruences.{cong_sym, cong_trans, cong_up, cong_zero, congruent_from, divided}
use Rattle.tm_cint.proofs.low.tm_numbers.Divisibility.{divides_abs, divides_from_abs}
use Rattle.tm_cint.proofs.low.tm_numbers.Gcds.{gcd_is}
use Rattle.transfer_int.specs.interval_dom.Interval.{Span}
use Rattle.transfer_int.specs.congruence_dom.Class.{InClass}
use Rattle.transfer_int.specs.congruence_dom.declared.classes.Cong.{Cong}
use Rattle.filters.specs.pointer_dom.laws.Existence.{spaced_exists}
use Rattle.tm_cint.specs.IntTypes.{IsIn, is_signed, width_of, lo_of, hi_of}
use Rattle.tm_cint.specs.Conversions.{wrapped}
use Rattle.tm_cint.specs.declared.int_types.IntType.{IntType}
use Rattle.tm_cint.proofs.Values.{wrapped-in, wrapped-turned}
use Rattle.transfer_int.specs.Operands.{IsBetween}
use Rattle.transfer_int.specs.Values.{IsWrapped, IsFitted, turns}
use Rattle.transfer_int.specs.reading.Fittings.{IsMember, from_to}
use Rattle.transfer_int.proofs.Placing as Placing
use Rattle.transfer_int.proofs.Placing.{rewrapped, wrapped_none, strides_divide}
use Rattle.operator_values.specs.laws.Listings.{Test, Listing, IsAmong, least_among, greatest_among, has_test, members}
use Rattle.operator_values.specs.laws.Listings.{passing_listing, listing_hull}

-- a strided set with exactly the integers that have the property
abbrev pub SetOf : (ℤ → Type 0) → Type 0
SetOf P = (r : Progression) × IsExactly P r

pub same_set : (P Q : ℤ → Type 0) → ((v : ℤ) → P v → Q v) → ((v : ℤ) → Q v → P v) → SetOf P → SetOf Q
same_set P Q to from r = (r.0, exactly_same P Q r.0 to from r.1)

pub no_set : (P : ℤ → Type 0) → ((v : ℤ) → P v → ⊥) → SetOf P
no_set P none = (empty, exactly_empty P empty refl none)

pub one_set : (x : ℤ) → SetOf (λ v. v ≡ x)
unfolding Has
one_set x = (single x, record { sound = λ v h. h; complete = λ v h. h })

-- what two sets have in common
pub both_set : (s t : Progression) → SetOf (IsInBoth s t)
both_set s t =
    let h = listing_hull (passing_listing (Has t) (has_test t) (members s)) in (
      h.0,
      record {
        sound = λ v k. ((h.1.least s (λ w p. p.0)).within v k, (h.1.least t (λ w p. p.1)).within v k);
        complete = λ v k. h.1.complete v k;
      },
    )

pub meet_set : (P Q : ℤ → Type 0) → SetOf P → SetOf Q → SetOf (λ v. P v × Q v)
meet_set P Q r s = same_set (IsInBoth r.0 s.0) (λ v. P v × Q v)
    (λ v h. (r.1.sound v h.0, s.1.sound v h.1)) (λ v h. (r.1.complete v h.0, s.1.complete v h.1)) (both_set r.0 s.0)

-- a further row where its guard holds
pub cut_set : (P Q : ℤ → Type 0) (G : Type 0) → SetOf P → Test G → (G → SetOf Q) → SetOf (λ v. P v × (G → Q v))
cut_set P Q G r (inl g) s = same_set (λ v. P v × Q v) (λ v. P v × (G → Q v))
    (λ v h. (h.0, λ k. h.1)) (λ v h. (h.0, h.1 g)) (meet_set P Q r (s g))
cut_set P Q G r (inr n) s =
    same_set P (λ v. P v × (G → Q v)) (λ v h. (h, λ g. absurd (n g))) (λ v h. h.0) r

-- the numbers from the one to the other
pub span_set : (lo hi : ℤ) → SetOf (λ v. (lo ≤ℤ v) × (v ≤ℤ hi))
span_set lo hi = same_set (IsSpaced lo hi 1) (λ v. (lo ≤ℤ v) × (v ≤ℤ hi)) (λ v h. (h.from, h.to))
    (λ v h. record {
      from = h.0;
      to = h.1;
      congruent = cong_up 1 (nat_abs (v -ℤ lo)) v lo (omega (arith, ints, h.0));
    }) (spaced_exists lo hi 1)

pub type_set : (t : IntType) → SetOf (λ v. IsIn t v)
type_set t = same_set (λ v. (lo_of t ≤ℤ v) × (v ≤ℤ hi_of t)) (λ v. IsIn t v)
    (λ v h. record { at_least = h.0; at_most = h.1 }) (λ v h. (h.at_least, h.at_most)) (span_set (lo_of t) (hi_of t))

-- the numbers between two ends that are congruent to a third one
from_below : (low high lo : ℤ) (m : ℕ) → low ≤ℤ lo → SetOf (IsInClassBetween low high lo m)
from_below low high lo zero le = same_set (IsSpaced lo (int_min lo high) 0) (IsInClassBetween low high lo 0)
    (λ v p. (let e = cong_zero p.congruent in record {
      from = omega (arith, ints, clamps, p.from);
      to = omega (arith, ints, clamps, p.to);
      congruent = p.congruent;
    }))
    (λ v p. (let e = cong_zero p.congruent in record {
      from = omega (arith, ints);
      to = omega (arith, ints, clamps, p.to);
      congruent = p.congruent;
    })) (spaced_exists lo (int_min lo high) 0)
from_below low high lo (suc gap) le =
    let d = nat_abs (lo -ℤ low) in
    let first = low +ℤ pos (d % suc gap) in
    let r = spaced_exists first high (suc gap) in (
      r.0,
      class_exactly low high lo first (suc gap) r.0 (class_by_rest low lo (suc gap) d (omega arith)
          (omega (arith, ints))) r.1,
    )

class_set : (low high lo : ℤ) (m : ℕ) → SetOf (IsInClassBetween low high lo m)
class_set low high lo m = by_lt_z lo low (upward m) (from_below low high lo m)
  where
    upward : (m : ℕ) → lo <ℤ low → SetOf (IsInClassBetween low high lo m)
    upward zero below = no_set (IsInClassBetween low high lo 0)
        (λ v p. (let e = cong_zero p.congruent in omega (arith, ints, p.from)))
    upward (suc gap) below =
        let d = nat_abs (low -ℤ lo) in
        let above = lo +ℤ pos (d * suc gap) in
        let far : d ≤ d * suc gap = omega arith in
        let same = cong_up (suc gap) d above lo refl in
        same_set (IsInClassBetween low high above (suc gap)) (IsInClassBetween low high lo (suc gap))
        (λ v p. record { from = p.from; to = p.to; congruent = cong_trans p.congruent same })
        (λ v p. record { from = p.from; to = p.to; congruent = cong_trans p.congruent (cong_sym same) })
        (from_below low high above (suc gap) (omega (arith, ints, far)))

-- the numbers of an interval and a class
pub member_set : (span : Span) (class : Cong) → SetOf (IsMember span class)
member_set span class =
    let m = unsigned_abs class.modulus in
    same_set (IsInClassBetween span.lo span.hi class.residue m) (IsMember span class)
    (λ v p. record {
      in_span = record { low = p.from; high = p.to };
      in_class = divides_from_abs class.modulus (v -ℤ class.residue) (divided m v class.residue p.congruent);
    })
    (λ v p. record {
      from = p.in_span.low;
      to = p.in_span.high;
      congruent = congruent_from m v class.residue (divides_abs class.modulus (v -ℤ class.residue) p.in_class);
    }) (class_set span.lo span.hi class.residue m)

-- the numbers of a class from the least to the greatest of a list
pub between_set : {P : ℤ → Type 0} (C : ℤ → Type 0) (class : Cong) → Listing P
    → ((v : ℤ) → (InClass class v → C v) × (C v → InClass class v)) → SetOf (λ v. IsBetween P v × C v)
between_set {P} C class l is = by_list l.0 l.1.sound l.1.complete
  where
    by_list : (xs : List ℤ) → ((v : ℤ) → IsAmong xs v → P v) → ((v : ℤ) → P v → IsAmong xs v)
        → SetOf (λ v. IsBetween P v × C v)
    by_list [] sound complete = no_set (λ v. IsBetween P v × C v) (λ v h. complete h.0.low h.0.low_is)
    by_list (x ∷ xs) sound complete =
        let least = least_among x xs in
        let greatest = greatest_among x xs in
        same_set (IsMember (from_to least.0 greatest.0) class) (λ v. IsBetween P v × C v)
        (λ v h. (
          record {
            low = least.0;
            high = greatest.0;
            low_is = sound least.0 least.1.0;
            high_is = sound greatest.0 greatest.1.0;
            from = h.in_span.low;
            to = h.in_span.high;
          },
          (is v).0 h.in_class,
        ))
        (λ v h. (let a = least.1.1 h.0.low (complete h.0.low h.0.low_is) in
        let b = greatest.1.1 h.0.high (complete h.0.high h.0.high_is) in record {
          in_span = record { low = omega (arith, ints, a, h.0.from); high = omega (arith, ints, b, h.0.to) };
          in_class = (is v).1 h.1;
        })) (member_set (from_to least.0 greatest.0) class)

-- a property of 0 and 1 alone
pub bit_set : (P : ℤ → Type 0) → Test (P (pos 0)) → Test (P (pos 1))
    → ((v : ℤ) → P v → (v ≡ pos 0) ⊎ (v ≡ pos 1)) → SetOf P
bit_set P (inl a) (inl b) bits = same_set (λ v. (pos 0 ≤ℤ v) × (v ≤ℤ pos 1)) P
    (λ v h. by_lt_z v (pos 1) (λ less. (let e : pos 0 ≡ v = omega (arith, ints, h.0, less) in subst P e a))
    (λ le. (let e : pos 1 ≡ v = omega (arith, ints, h.1, le) in subst P e b)))
    (λ v h. ⊎_elim (λ e. (omega (arith, ints, e), omega (arith, ints, e)))
    (λ e. (omega (arith, ints, e), omega (arith, ints, e))) (bits v h)) (span_set (pos 0) (pos 1))
bit_set P (inl a) (inr m) bits = same_set (λ v. v ≡ pos 0) P (λ v e. subst P (sym e) a)
    (λ v h. ⊎_elim (λ e. e) (λ e. absurd (m (subst P e h))) (bits v h)) (one_set (pos 0))
bit_set P (inr n) (inl b) bits = same_set (λ v. v ≡ pos 1) P (λ v e. subst P (sym e) b)
    (λ v h. ⊎_elim (λ e. absurd (n (subst P e h))) (λ e. e) (bits v h)) (one_set (pos 1))
bit_set P (inr n) (inr m) bits =
    no_set P (λ v h. ⊎_elim (λ e. n (subst P e h)) (λ e. m (subst P e h)) (bits v h))

-- the wrapping of a set into a type
module _ (t : IntType) (q : Progression) (some : Has q (first_of q)) where
  abbrev first : ℤ
  first = first_of q

  abbrev low : ℤ
  low = wrapped t first

  abbrev extent : ℕ
  extent = nat_abs (last_of q -ℤ first)

  abbrev Row : ℤ → Type 0
  Row = IsSpaced first (first +ℤ pos extent) (stride_of q)

  end_is : first +ℤ pos extent ≡ last_of q
  end_is = omega (arith, ints, first_le_last q)

  to_set : (v : ℤ) → Row v → Has q v
  to_set v h = has_from q v some (record {
    from = h.from;
    to = omega (arith, ints, h.to, end_is);
    congruent = h.congruent;
  })

  of_set : (v : ℤ) → Has q v → Row v
  of_set v h = let s = spaced_from q v h in record {
    from = s.from;
    to = omega (arith, ints, s.to, end_is);
    congruent = s.congruent;
  }

  moved : first ≡ low +ℤ turns t (wrapped-turned t first).0
  moved = (wrapped-turned t first).1

  of_row : (s : Progression) → IsExactly (IsWrapped t Row) s → SetOf (IsWrapped t (Has q))
  of_row s h = (s, rewrapped t Row (Has q) s to_set of_set h)

  wrapped_some : SetOf (IsWrapped t (Has q))
  wrapped_some = by_lt_z (hi_of t) (low +ℤ pos extent)
      (λ out. (let g = gcd (stride_of q) (2 ^ width_of t) in
      let d = nat_abs (low -ℤ lo_of t) in
      let start = wrapped-in t first in
      let s = spaced_exists (lo_of t +ℤ pos (d % g)) (hi_of t) g in
      of_row s.0 (Placing.class_exactly t low (lo_of t +ℤ pos (d % g)) extent (stride_of q) g d s.0 start
      (strides_divide q some) (gcd_is (stride_of q) (2 ^ width_of t)) out (omega (arith, ints, start.at_least)) refl
      s.1 first (wrapped-turned t first).0 moved)))
      (λ within. (let s = spaced_exists low (low +ℤ pos extent) (stride_of q) in
      of_row s.0 (Placing.fits t low first (wrapped-turned t first).0 extent (stride_of q) (wrapped-in t first) moved
      (strides_divide q some) s.0 within s.1)))

pub wrapped_set : (t : IntType) (q : Progression) → SetOf (IsWrapped t (Has q))
wrapped_set t q = ⊎_elim (λ some. wrapped_some t q some) (λ none. (q, wrapped_none t q none)) (some_or_empty q)

-- rows that have a set, met with a signed type, or wrapped into an unsigned one
pub fitted_set : (t : IntType) (R : ℤ → Type 0) → SetOf R → SetOf (IsFitted t R)
fitted_set t R q = by_sign (is_signed t) refl
  where
    by_sign : (s : P.Bool) → is_signed t ≡ s → SetOf (IsFitted t R)
    by_sign true e = same_set (λ v. R v × IsIn t v) (IsFitted t R)
        (λ v h. record { met = λ k. h; wrapped = λ k. absurd (let c : true ≡ false = sym e ∙ k in cc) })
        (λ v h. h.met e) (meet_set R (λ v. IsIn t v) q (type_set t))
    by_sign false e =
        let w = wrapped_set t q.0 in
        same_set (IsWrapped t R) (IsFitted t R)
        (λ v h. record { met = λ k. absurd (let c : true ≡ false = sym k ∙ e in cc); wrapped = λ k. h })
        (λ v h. h.wrapped e) (w.0, rewrapped t (Has q.0) R w.0 q.1.sound q.1.complete w.1)
