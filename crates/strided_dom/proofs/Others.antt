-- The hull of a set without one of its members.
use Rattle.std.proofs.Common.{◌≡◌, ◌≢◌, ℕ, zero, suc, ◌*◌, ◌^◌, ◌≤◌, ◌<◌, ℤ, pos, ◌+ℤ◌, ◌-ℤ◌, ◌≤ℤ◌, refl, sym, ap, ◌∙◌, subst, arith, le_of_mul-le-mul_right}
use Rattle.std.specs.Int.{◌∣◌}
use Rattle.std.proofs.lemmas.Int.{ints}
use Rattle.strided_dom.specs.Progression.{Progression, empty, Has, IsExactly, IsHull, IsSpaced, stride_of}
use Rattle.tm_numbers.specs.Congruence.{IsCongruent}
use Rattle.strided_dom.specs.Combinations.{IsAnother}
use Rattle.strided_dom.specs.reading.Fields.{AreEnds, AreEndsOf}
use Rattle.tm_numbers.proofs.Congruences.{cong_sym, cong_trans, cong_up, cong_weaken, divides, strides_between}
use Rattle.strided_dom.proofs.Members.{not_in_empty}
use Rattle.strided_dom.proofs.Spans.{exactly_same}
use Rattle.strided_dom.proofs.Hulls.{hull_from_exactly, hull_of_one, span_from_of, spaced_of, has_of, low_in, high_in, next_in, has_spaced, stride_dvd_step}

-- the distance of the ends is a number of strides; there is none where it is 0
pub steps_some : (lo hi : ℤ) (m : ℕ) → AreEnds lo hi m → lo ≢ hi → (k : ℕ) × ((hi ≡ lo +ℤ pos (suc k * m)) × (0 < m))
steps_some lo hi m h apart = by k.0 k.1
  where
    k : (k : ℕ) × (hi ≡ lo +ℤ pos (k * m))
    k = strides_between h.congruent h.ordered

    by : (k : ℕ) → hi ≡ lo +ℤ pos (k * m) → (k : ℕ) × ((hi ≡ lo +ℤ pos (suc k * m)) × (0 < m))
    by zero e = absurd (apart (omega (arith, ints)))
    by (suc k) e = (k, (e, some m refl e))
      where
        some : (m' : ℕ) → m ≡ m' → hi ≡ lo +ℤ pos (suc k * m) → 0 < m
        some zero z e = (let p : suc k * m ≡ 0 = ap (λ x. suc k * x) z ∙ omega arith in absurd (apart (omega (arith, ints))))
        some (suc m') z e = omega arith

pub stride_in_reach : (lo hi : ℤ) (m : ℕ) → AreEnds lo hi m → lo ≢ hi → ((lo +ℤ pos m) ≤ℤ hi) × (m ≤ 2 ^ 101)
stride_in_reach lo hi m h apart =
    let k = steps_some lo hi m h apart in
    (omega (arith, ints, k.1.0), omega (arith, ints, k.1.0, h.low.low, h.high.high))

module _ (a r : Progression) (lo hi : ℤ) (m : ℕ) (v : ℤ) (h : AreEndsOf a lo hi m) where
  ends : AreEnds lo hi m
  ends = span_from_of a lo hi m h

  -- the number of strides from lo to a member
  place : (x : ℤ) → IsSpaced lo hi m x → (k : ℕ) × (x ≡ lo +ℤ pos (k * m))
  place x p = strides_between p.congruent p.from

  pub without_single : lo ≡ hi → IsSpaced lo hi m v → r ≡ empty → IsHull (IsAnother a v) r
  without_single same member e = hull_of_one (IsAnother a v) r
      (λ x p. (let q = spaced_of a lo hi m x h p.0 in absurd (p.1 (omega (arith, ints, q.from, q.to, member.from, member.to)))))
      (λ x p. absurd (not_in_empty x (subst (λ s. Has s x) e p)))

  pub without_first : lo ≢ hi → v ≡ lo → IsExactly (IsSpaced (lo +ℤ pos m) hi m) r → IsHull (IsAnother a v) r
  without_first apart v_is exact = hull_from_exactly (IsAnother a v) r (exactly_same (IsSpaced (lo +ℤ pos m) hi m) (IsAnother a v) r one other exact)
    where
      some : 0 < m
      some = (steps_some lo hi m ends apart).1.1

      next : IsCongruent m (lo +ℤ pos m) lo
      next = cong_up m 1 (lo +ℤ pos m) lo (omega (arith, ints))

      one : (x : ℤ) → IsSpaced (lo +ℤ pos m) hi m x → IsAnother a v x
      one x p = (has_of a lo hi m x h (record { from = omega (arith, ints, p.from); to = p.to; congruent = cong_trans p.congruent next }), λ e. omega (arith, ints, some, p.from))

      above : (k : ℕ) (x : ℤ) → x ≡ lo +ℤ pos (k * m) → x ≢ v → (lo +ℤ pos m) ≤ℤ x
      above zero x e ne = absurd (ne (omega (arith, ints)))
      above (suc k) x e ne = omega (arith, ints)

      other : (x : ℤ) → IsAnother a v x → IsSpaced (lo +ℤ pos m) hi m x
      other x p =
          let q = spaced_of a lo hi m x h p.0 in
          let k = place x q in
          record { from = above k.0 x k.1 p.1; to = q.to; congruent = cong_trans q.congruent (cong_sym next) }

  pub without_last : lo ≢ hi → v ≡ hi → IsExactly (IsSpaced lo (hi -ℤ pos m) m) r → IsHull (IsAnother a v) r
  without_last apart v_is exact = hull_from_exactly (IsAnother a v) r (exactly_same (IsSpaced lo (hi -ℤ pos m) m) (IsAnother a v) r one other exact)
    where
      some : 0 < m
      some = (steps_some lo hi m ends apart).1.1

      one : (x : ℤ) → IsSpaced lo (hi -ℤ pos m) m x → IsAnother a v x
      one x p = (has_of a lo hi m x h (record { from = p.from; to = omega (arith, ints, p.to); congruent = p.congruent }), λ e. omega (arith, ints, some, p.to))

      below : (k : ℕ) (x : ℤ) → hi ≡ x +ℤ pos (k * m) → x ≢ v → x ≤ℤ (hi -ℤ pos m)
      below zero x e ne = absurd (ne (omega (arith, ints)))
      below (suc k) x e ne = omega (arith, ints)

      other : (x : ℤ) → IsAnother a v x → IsSpaced lo (hi -ℤ pos m) m x
      other x p =
          let q = spaced_of a lo hi m x h p.0 in
          let k = strides_between (cong_trans ends.congruent (cong_sym q.congruent)) q.to in
          record { from = q.from; to = below k.0 x k.1 p.1; congruent = q.congruent }

  module _ (apart : lo ≢ hi) (not_first : v ≢ lo) (not_last : v ≢ hi) (member : IsSpaced lo hi m v) where
    gap : 0 < m
    gap = (steps_some lo hi m ends apart).1.1

    pub without_middle : hi ≡ lo +ℤ pos (2 * m) → IsExactly (IsSpaced lo hi (2 * m)) r → IsHull (IsAnother a v) r
    without_middle three exact = hull_from_exactly (IsAnother a v) r (exactly_same (IsSpaced lo hi (2 * m)) (IsAnother a v) r one other exact)
      where
        at_most_two : (k : ℕ) (x : ℤ) → x ≡ lo +ℤ pos (k * m) → x ≤ℤ hi → k ≤ 2
        at_most_two k x e to = (let p : k * m ≤ 2 * m = omega (arith, ints) in le_of_mul-le-mul_right {k = m} p gap)

        middle : (k : ℕ) → v ≡ lo +ℤ pos (k * m) → k ≤ 2 → v ≡ lo +ℤ pos m
        middle zero e p = absurd (not_first (omega (arith, ints)))
        middle (suc zero) e p = omega (arith, ints)
        middle (suc (suc zero)) e p = absurd (not_last (omega (arith, ints)))
        middle (suc (suc (suc k))) e p = absurd (omega arith)

        v_is : v ≡ lo +ℤ pos m
        v_is = (let k = place v member in middle k.0 k.1 (at_most_two k.0 v k.1 member.to))

        not_middle : (k : ℕ) (x : ℤ) → x ≡ lo +ℤ pos (k * (2 * m)) → x ≢ v
        not_middle zero x e f = omega (arith, ints, v_is)
        not_middle (suc k) x e f = omega (arith, ints, v_is)

        one : (x : ℤ) → IsSpaced lo hi (2 * m) x → IsAnother a v x
        one x p =
            let k = strides_between p.congruent p.from in
            (has_of a lo hi m x h (record { from = p.from; to = p.to; congruent = cong_weaken m (divides m 2 (2 * m) refl) p.congruent }), not_middle k.0 x k.1)

        ends : (k : ℕ) (x : ℤ) → x ≡ lo +ℤ pos (k * m) → k ≤ 2 → x ≢ v → IsCongruent (2 * m) x lo
        ends zero x e p ne = cong_up (2 * m) 0 x lo (omega (arith, ints))
        ends (suc zero) x e p ne = absurd (ne (omega (arith, ints, v_is)))
        ends (suc (suc zero)) x e p ne = cong_up (2 * m) 1 x lo (omega (arith, ints))
        ends (suc (suc (suc k))) x e p ne = absurd (omega arith)

        other : (x : ℤ) → IsAnother a v x → IsSpaced lo hi (2 * m) x
        other x p =
            let q = spaced_of a lo hi m x h p.0 in
            let k = place x q in
            record { from = q.from; to = q.to; congruent = ends k.0 x k.1 (at_most_two k.0 x k.1 q.to) p.1 }

    pub without_inner : hi ≢ lo +ℤ pos (2 * m) → IsExactly (IsSpaced lo hi m) r → IsHull (IsAnother a v) r
    without_inner more exact = record { complete = λ x p. exact.complete x (spaced_of a lo hi m x h p.0); least = λ t covers. record { within = λ x p. inside t covers x (exact.sound x p) } }
      where
        at_step : (j : ℕ) → (lo +ℤ pos (j * m)) ≤ℤ hi → Has a (lo +ℤ pos (j * m))
        at_step j p = has_of a lo hi m (lo +ℤ pos (j * m)) h (record { from = omega (arith, ints); to = p; congruent = cong_up m j (lo +ℤ pos (j * m)) lo refl })

        three : (k : ℕ) → hi ≡ lo +ℤ pos (k * m) → v ≡ lo +ℤ pos m → (lo +ℤ pos (3 * m)) ≤ℤ hi
        three zero e f = absurd (apart (omega (arith, ints)))
        three (suc zero) e f = absurd (not_last (omega (arith, ints)))
        three (suc (suc zero)) e f = absurd (more (omega (arith, ints)))
        three (suc (suc (suc k))) e f = omega (arith, ints)

        whole : (t : Progression) → ((x : ℤ) → IsAnother a v x → Has t x) → (j : ℕ) → v ≡ lo +ℤ pos (j * m) → stride_of t ∣ m
        whole t covers zero e = absurd (not_first (omega (arith, ints)))
        whole t covers (suc zero) e =
            let k = strides_between ends.congruent ends.ordered in
            let long = three k.0 k.1 (omega (arith, ints)) in
            let second = covers (lo +ℤ pos (2 * m)) (at_step 2 (omega (arith, ints)), λ f. omega (arith, ints)) in
            let third = covers (lo +ℤ pos (3 * m)) (at_step 3 long, λ f. omega (arith, ints)) in
            stride_dvd_step t (lo +ℤ pos (2 * m)) m second (subst (Has t) (omega (arith, ints)) third)
        whole t covers (suc (suc j)) e =
            stride_dvd_step t lo m (covers lo (low_in a lo hi m h, λ f. not_first (sym f))) (covers (lo +ℤ pos m) (next_in a lo hi m h, λ f. omega (arith, ints)))

        inside : (t : Progression) → ((x : ℤ) → IsAnother a v x → Has t x) → (x : ℤ) → IsSpaced lo hi m x → Has t x
        inside t covers x p =
            let low = covers lo (low_in a lo hi m h, λ f. not_first (sym f)) in
            let high = covers hi (high_in a lo hi m h, λ f. not_last (sym f)) in
            let j = place v member in
            has_spaced t lo lo hi x m low low high (whole t covers j.0 j.1) p.from p.to p.congruent

pub without_none : (s : Progression) (v : ℤ) → (Has s v → ⊥) → IsHull (IsAnother s v) s
without_none s v h = hull_of_one (IsAnother s v) s (λ x p. p.0) (λ x p. (p, λ e. h (subst (Has s) e p)))

pub empty_has_none : (s : Progression) (v : ℤ) → s ≡ empty → Has s v → ⊥
empty_has_none s v e p = not_in_empty v (subst (λ x. Has x v) e p)
