-- Every two strided sets have a hull, and every strided set has a rounding.
use Rattle.std.specs.Prelude.{◌≡◌, ℕ, zero, suc, ◌+◌, ◌*◌, ◌/◌, ◌%◌, ◌<◌, ◌≤◌, List, ℤ, pos, nat_abs, ◌+ℤ◌, ◌-ℤ◌, ◌≤ℤ◌}
use Rattle.std.specs.Prelude.{◌<ℤ◌}
use Rattle.std.proofs.Common.{inl, inr, ⊎_elim, refl, subst, arith, mul-le-mul_right}
use Rattle.std.specs.Int.{IsGcd, int_min, int_max}
use Rattle.std.proofs.lemmas.Bool.{cases_lt}
use Rattle.std.proofs.lemmas.Nat.{mod_below}
use Rattle.std.proofs.lemmas.Nat.Gcd.{IsGcd-from_zero, IsGcd-from_mod, dvd_trans}
use Rattle.std.proofs.lemmas.Int.{ints, clamps, by_lt_z}
use Rattle.strided_dom.specs.Progression.{Progression, empty, single, row, Has, IsExactly, IsHull, IsSpaced, first_of}
use Rattle.strided_dom.specs.Progression.{last_of, stride_of}
use Rattle.strided_dom.specs.tm_numbers.Congruence.{IsCongruent}
use Rattle.strided_dom.specs.Combinations.{IsInEither}
use Rattle.strided_dom.specs.Rounding.{IsLowered, IsRaised, IsInRounding}
use Rattle.strided_dom.specs.reading.Classes.{IsInClassBetween}
use Rattle.strided_dom.proofs.low.tm_numbers.Congruences.{cong_refl, cong_sym, cong_trans, cong_up, cong_weaken}
use Rattle.strided_dom.proofs.low.tm_numbers.Congruences.{cong_zero}
use Rattle.strided_dom.proofs.low.tm_numbers.Congruences.{strides_between}
use Rattle.strided_dom.proofs.Distances.{cong_from_distance, cong_min}
use Rattle.strided_dom.proofs.Members.{IsSome, some_or_empty, some_from, spaced_from, has_from, has_last, has_next}
use Rattle.strided_dom.proofs.Members.{not_in_empty}
use Rattle.strided_dom.proofs.Spans.{exactly_crossed, exactly_empty, exactly_same}
use Rattle.strided_dom.proofs.Hulls.{hull_left_empty, hull_right_empty, stride_dvd_step, stride_dvd_distance}
use Rattle.strided_dom.proofs.Roundings.{lowered_exists, raised_exists, lowered_mono, raised_mono}
use Rattle.strided_dom.proofs.Thresholds.{class_by_rest, class_exactly}
use Rattle.pointer_dom.specs.Offset.{IsInRoundingWithin}

-- two numbers have a greatest common divisor
gcd_within : (most a b : ℕ) → b ≤ most → (g : ℕ) × IsGcd a b g
gcd_within zero a b h = (a, IsGcd-from_zero a b (omega arith))
gcd_within (suc most) a zero h = (a, IsGcd-from_zero a 0 refl)
gcd_within (suc most) a (suc b) h =
    let below = mod_below a (suc b) (omega arith) in
    let g = gcd_within most (suc b) (a % suc b) (omega (arith, below)) in
    (g.0, IsGcd-from_mod a (suc b) g.0 g.1)

gcd_exists : (a b : ℕ) → (g : ℕ) × IsGcd a b g
gcd_exists a b = gcd_within b a b (omega arith)

-- a number of strides that stays below one stride more
steps_le : (k q m rest : ℕ) → rest < m → k * m ≤ q * m + rest → k ≤ q
steps_le k q m rest less le = ⊎_elim
    (λ p. (let a : (q + 1) * m ≤ k * m = mul-le-mul_right {m = q + 1} {n = k} m (omega arith) in absurd (omega arith)))
    (λ p. p) (cases_lt q k)

-- the numbers from lo to hi that are congruent to lo modulo m form a set
steps_up : (lo hi : ℤ) (gap q rest : ℕ) → hi ≡ lo +ℤ pos (q * suc gap + rest) → rest < suc gap → (r : Progression)
    × IsExactly (IsSpaced lo hi (suc gap)) r
unfolding Has
steps_up lo hi gap zero rest hi_is less = (
  single lo,
  record {
    sound = λ v p. record {
      from = omega (arith, ints);
      to = omega (arith, ints);
      congruent = cong_up (suc gap) 0 v lo (omega (arith, ints));
    };
    complete = λ v p. (let k = strides_between p.congruent p.from in let z =
        steps_le k.0 0 (suc gap) rest less (omega (arith, ints, k.1, p.to)) in flat v k.0 z k.1);
  },
)
  where
    flat : (v : ℤ) (k : ℕ) → k ≤ 0 → v ≡ lo +ℤ pos (k * suc gap) → v ≡ lo
    flat v zero z e = omega (arith, ints)
    flat v (suc k) z e = absurd (omega arith)
steps_up lo hi gap (suc more) rest hi_is less = (
  row lo gap more,
  record {
    sound = λ v p. record {
      from = omega (arith, ints, p.1.1);
      to = (let a : p.0 * (gap + 1) ≤ (more + 1) * (gap + 1) =
          mul-le-mul_right {m = p.0} {n = more + 1} (gap + 1) p.1.0 in omega (arith, ints, p.1.1));
      congruent = cong_up (suc gap) p.0 v lo (omega (arith, ints, p.1.1));
    };
    complete = λ v p. (let k = strides_between p.congruent p.from in let within =
        steps_le k.0 (suc more) (suc gap) rest less (omega (arith, ints, k.1, p.to)) in
        (k.0, (omega (arith, within), omega (arith, ints, k.1))));
  },
)

pub spaced_exists : (lo hi : ℤ) (m : ℕ) → (r : Progression) × IsExactly (IsSpaced lo hi m) r
unfolding Has
spaced_exists lo hi m = by_lt_z hi lo (λ below. (empty, exactly_crossed lo hi m empty below refl)) (upward m)
  where
    upward : (m : ℕ) → lo ≤ℤ hi → (r : Progression) × IsExactly (IsSpaced lo hi m) r
    upward zero le = (
      single lo,
      record {
        sound = λ v p. record {
          from = omega (arith, ints);
          to = omega (arith, ints);
          congruent = cong_up 0 0 v lo (omega (arith, ints));
        };
        complete = λ v p. cong_zero p.congruent;
      },
    )
    upward (suc gap) le =
        let d = nat_abs (hi -ℤ lo) in
        let below : d % suc gap < suc gap = mod_below d (suc gap) (omega arith) in
        let whole : d / suc gap * suc gap + d % suc gap ≡ d = omega arith in
        steps_up lo hi gap (d / suc gap) (d % suc gap) (omega (arith, ints, whole)) below

-- two sets have a hull
hull_of_some : (s t : Progression) → IsSome s → IsSome t → (r : Progression) × IsHull (IsInEither s t) r
hull_of_some s t some some' = (
  whole.0,
  record {
    complete = λ v p. whole.1.complete v (⊎_elim (left v) (right v) p);
    least = λ u covers. record { within = λ v p. inside u covers v (whole.1.sound v p) };
  },
)
  where
    lo : ℤ
    lo = int_min (first_of s) (first_of t)

    hi : ℤ
    hi = int_max (last_of s) (last_of t)

    inner : (g : ℕ) × IsGcd (stride_of s) (stride_of t) g
    inner = gcd_exists (stride_of s) (stride_of t)

    outer : (g : ℕ) × IsGcd inner.0 (nat_abs (first_of s -ℤ first_of t)) g
    outer = gcd_exists inner.0 (nat_abs (first_of s -ℤ first_of t))

    whole : (r : Progression) × IsExactly (IsSpaced lo hi outer.0) r
    whole = spaced_exists lo hi outer.0

    cong_firsts : IsCongruent outer.0 (first_of t) (first_of s)
    cong_firsts = cong_sym (cong_from_distance outer.0 (first_of s) (first_of t) outer.1.1)

    begin : IsCongruent outer.0 (first_of s) lo
    begin = cong_sym (cong_min (cong_refl outer.0 (first_of s)) cong_firsts)

    left : (v : ℤ) → Has s v → IsSpaced lo hi outer.0 v
    left v p = let q = spaced_from s v p in record {
      from = omega (arith, ints, clamps, q.from);
      to = omega (arith, ints, clamps, q.to);
      congruent = cong_trans (cong_weaken outer.0 (dvd_trans outer.0 outer.1.0 inner.1.0) q.congruent) begin;
    }

    right : (v : ℤ) → Has t v → IsSpaced lo hi outer.0 v
    right v p = let q = spaced_from t v p in record {
      from = omega (arith, ints, clamps, q.from);
      to = omega (arith, ints, clamps, q.to);
      congruent = cong_trans (cong_weaken outer.0 (dvd_trans outer.0 outer.1.0 inner.1.1) q.congruent)
          (cong_trans cong_firsts begin);
    }

    inside : (u : Progression) → ((v : ℤ) → IsInEither s t v → Has u v) → (v : ℤ) → IsSpaced lo hi outer.0 v → Has u v
    inside u covers v p =
        let low = covers (first_of s) (inl some) in
        let low' = covers (first_of t) (inr some') in
        let d = stride_dvd_step u (first_of s) (stride_of s) low (covers _ (inl (has_next s some))) in
        let d' = stride_dvd_step u (first_of t) (stride_of t) low' (covers _ (inr (has_next t some'))) in
        let divides = outer.1.2 (stride_of u) (inner.1.2 (stride_of u) d d')
        (stride_dvd_distance u (first_of s) (first_of t) low low') in
        let a = spaced_from u _ low in
        let a' = spaced_from u _ low' in
        let b = spaced_from u _ (covers _ (inl (has_last s some))) in
        let b' = spaced_from u _ (covers _ (inr (has_last t some'))) in
        has_from u v (some_from u _ low) (record {
          from = omega (arith, ints, clamps, a.from, a'.from, p.from);
          to = omega (arith, ints, clamps, b.to, b'.to, p.to);
          congruent = cong_trans (cong_weaken (stride_of u) divides
              (cong_trans p.congruent (cong_sym begin))) a.congruent;
        })

pub hull_exists : (s t : Progression) → (r : Progression) × IsHull (IsInEither s t) r
hull_exists s t = ⊎_elim
    (λ some. ⊎_elim (λ some'. hull_of_some s t some some') (λ none. (s, hull_right_empty s t none)) (some_or_empty t))
    (λ none. (t, hull_left_empty s t none)) (some_or_empty s)

-- the numbers between two ends that are congruent to a third one form a set
from_below : (low high lo : ℤ) (m : ℕ) → low ≤ℤ lo → (r : Progression) × IsExactly (IsInClassBetween low high lo m) r
from_below low high lo zero le =
    let r = spaced_exists lo (int_min lo high) 0 in (
      r.0,
      exactly_same (IsSpaced lo (int_min lo high) 0) (IsInClassBetween low high lo 0) r.0
          (λ v p. (let e = cong_zero p.congruent in record {
            from = omega (arith, ints, clamps, p.from);
            to = omega (arith, ints, clamps, p.to);
            congruent = p.congruent;
          }))
          (λ v p. (let e = cong_zero p.congruent in record {
            from = omega (arith, ints);
            to = omega (arith, ints, clamps, p.to);
            congruent = p.congruent;
          })) r.1,
    )
from_below low high lo (suc gap) le =
    let d = nat_abs (lo -ℤ low) in
    let first = low +ℤ pos (d % suc gap) in
    let r = spaced_exists first high (suc gap) in (
      r.0,
      class_exactly low high lo first (suc gap) r.0 (class_by_rest low lo (suc gap) d (omega arith)
          (omega (arith, ints))) r.1,
    )

class_exists : (low high lo : ℤ) (m : ℕ) → (r : Progression) × IsExactly (IsInClassBetween low high lo m) r
class_exists low high lo m = by_lt_z lo low (upward m) (from_below low high lo m)
  where
    upward : (m : ℕ) → lo <ℤ low → (r : Progression) × IsExactly (IsInClassBetween low high lo m) r
    upward zero below = (
      empty,
      exactly_empty (IsInClassBetween low high lo 0) empty refl
          (λ v p. (let e = cong_zero p.congruent in omega (arith, ints, p.from))),
    )
    upward (suc gap) below =
        let d = nat_abs (low -ℤ lo) in
        let above = lo +ℤ pos (d * suc gap) in
        let far : d ≤ d * suc gap = omega arith in
        let same = cong_up (suc gap) d above lo refl in
        let r = from_below low high above (suc gap) (omega (arith, ints, far)) in (
          r.0,
          exactly_same (IsInClassBetween low high above (suc gap)) (IsInClassBetween low high lo (suc gap)) r.0
              (λ v p. record { from = p.from; to = p.to; congruent = cong_trans p.congruent same })
              (λ v p. record { from = p.from; to = p.to; congruent = cong_trans p.congruent (cong_sym same) }) r.1,
        )

-- each set has a rounding, and the offsets of an object that are in it form a set
module _ (marks : List ℤ) (s : Progression) where
  ends : (low : ℤ) × IsLowered marks (first_of s) low
  ends = lowered_exists marks (first_of s)

  tops : (high : ℤ) × IsRaised marks (last_of s) high
  tops = raised_exists marks (last_of s)

  in_rounding : IsSome s → (v : ℤ) → IsInClassBetween ends.0 tops.0 (first_of s) (stride_of s) v
      → IsInRounding marks s v
  in_rounding some v p = record {
    low = ends.0;
    high = tops.0;
    some = some;
    lowered = ends.1;
    raised = tops.1;
    from = p.from;
    to = p.to;
    congruent = p.congruent;
  }

  from_rounding : (v : ℤ) → IsInRounding marks s v → IsInClassBetween ends.0 tops.0 (first_of s) (stride_of s) v
  from_rounding v p =
      let a = lowered_mono marks (first_of s) (first_of s) p.low ends.0 (omega (arith, ints)) p.lowered ends.1 in
      let b = raised_mono marks (last_of s) (last_of s) p.high tops.0 (omega (arith, ints)) p.raised tops.1 in
      record { from = omega (arith, ints, a, p.from); to = omega (arith, ints, b, p.to); congruent = p.congruent }

  no_rounding : s ≡ empty → (v : ℤ) → IsInRounding marks s v → ⊥
  no_rounding e v p = not_in_empty _ (subst (λ x. Has x (first_of s)) e p.some)

  pub rounding_exists : (r : Progression) × IsExactly (IsInRounding marks s) r
  rounding_exists = ⊎_elim
      (λ some. (let r = class_exists ends.0 tops.0 (first_of s) (stride_of s) in (
        r.0,
        exactly_same (IsInClassBetween ends.0 tops.0 (first_of s) (stride_of s)) (IsInRounding marks s) r.0
            (in_rounding some) from_rounding r.1,
      )))
      (λ none. (empty, exactly_empty (IsInRounding marks s) empty refl (no_rounding none))) (some_or_empty s)

  pub rounding_within_exists : (size : ℕ) → (r : Progression) × IsExactly (IsInRoundingWithin size marks s) r
  rounding_within_exists size = ⊎_elim
      (λ some. (let r = class_exists (int_max (pos 0) ends.0) (int_min (pos size) tops.0)
      (first_of s) (stride_of s) in (
        r.0,
        exactly_same (IsInClassBetween (int_max (pos 0) ends.0) (int_min (pos size) tops.0) (first_of s) (stride_of s))
            (IsInRoundingWithin size marks s) r.0
            (λ v p. record {
              rounding = in_rounding some v (record {
                from = omega (arith, ints, clamps, p.from);
                to = omega (arith, ints, clamps, p.to);
                congruent = p.congruent;
              });
              offset = record { from = omega (arith, ints, clamps, p.from); to = omega (arith, ints, clamps, p.to) };
            })
            (λ v p. (let q = from_rounding v p.rounding in record {
              from = omega (arith, ints, clamps, q.from, p.offset.from);
              to = omega (arith, ints, clamps, q.to, p.offset.to);
              congruent = q.congruent;
            })) r.1,
      )))
      (λ none. (
        empty,
        exactly_empty (IsInRoundingWithin size marks s) empty refl
            (λ v p. no_rounding none v p.rounding),
      )) (some_or_empty s)
