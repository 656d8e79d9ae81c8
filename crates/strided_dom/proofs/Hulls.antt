-- Hulls of unions and of sums.
use Rattle.std.proofs.Common.{◌≡◌, ℕ, inl, inr, ⊎_elim, ℤ, pos, ◌+ℤ◌, ◌-ℤ◌, ◌≤ℤ◌, nat_abs, refl, sym, ◌∙◌, subst, arith}
use Rattle.std.specs.Int.{◌∣◌, IsGcd, int_min, int_max}
use Rattle.std.proofs.lemmas.Nat.Gcd.{dvd_trans}
use Rattle.std.proofs.lemmas.Int.{ints, clamps}
use Rattle.strided_dom.specs.Progression.{Progression, empty, Has, IsExactly, IsHull, IsSpaced, IsInReach, stride_of}
use Rattle.tm_numbers.specs.Congruence.{IsCongruent}
use Rattle.strided_dom.specs.Combinations.{IsInEither, IsSum}
use Rattle.strided_dom.specs.reading.Fields.{AreEnds, AreEndsOf}
use Rattle.tm_numbers.proofs.Congruences.{cong_refl, cong_sym, cong_trans, cong_weaken}
use Rattle.strided_dom.proofs.Distances.{cong_from_distance, distance_from_cong, cong_add, cong_min, cong_max}
use Rattle.strided_dom.proofs.Members.{some_from, spaced_from, has_from, has_last, has_next, first_le_last, stride_from_ends, cong_members, not_in_empty}

pub hull_from_exactly : (P : ℤ → Type 0) (s : Progression) → IsExactly P s → IsHull P s
hull_from_exactly P s h = record { complete = h.complete; least = λ t k. record { within = λ v p. k v (h.sound v p) } }

-- the hull of the members of one set
pub hull_of_one : (P : ℤ → Type 0) (s : Progression) → ((v : ℤ) → P v → Has s v) → ((v : ℤ) → Has s v → P v) → IsHull P s
hull_of_one P s f g = hull_from_exactly P s (record { sound = g; complete = f })

pub hull_left_empty : (s t : Progression) → s ≡ empty → IsHull (IsInEither s t) t
hull_left_empty s t e = hull_of_one (IsInEither s t) t (λ v. λ p. ⊎_elim (λ q. absurd (not_in_empty v (subst (λ x. Has x v) e q))) (λ q. q) p) (λ v p. inr p)

pub hull_right_empty : (s t : Progression) → t ≡ empty → IsHull (IsInEither s t) s
hull_right_empty s t e = hull_of_one (IsInEither s t) s (λ v. λ p. ⊎_elim (λ q. q) (λ q. absurd (not_in_empty v (subst (λ x. Has x v) e q))) p) (λ v p. inl p)

pub span_from_of : (s : Progression) (lo hi : ℤ) (m : ℕ) → AreEndsOf s lo hi m → AreEnds lo hi m
span_from_of s lo hi m h = record {
  low = h.low;
  high = h.high;
  ordered = rw (h.first, h.last) (first_le_last s);
  congruent = rw (h.first, h.last, h.step) (spaced_from s _ (has_last s h.some)).congruent;
  flat = λ e. h.step ∙ stride_from_ends s (sym h.last ∙ sym e ∙ h.first);
}

-- what is known of a member, by the ends and the stride
pub spaced_of : (s : Progression) (lo hi : ℤ) (m : ℕ) (v : ℤ) → AreEndsOf s lo hi m → Has s v → IsSpaced lo hi m v
spaced_of s lo hi m v h p = rw (h.first, h.last, h.step) (spaced_from s v p)

pub has_of : (s : Progression) (lo hi : ℤ) (m : ℕ) (v : ℤ) → AreEndsOf s lo hi m → IsSpaced lo hi m v → Has s v
has_of s lo hi m v h p = has_from s v h.some (rw (h.first, h.last, h.step) at p)

pub low_in : (s : Progression) (lo hi : ℤ) (m : ℕ) → AreEndsOf s lo hi m → Has s lo
low_in s lo hi m h = rw h.first h.some

pub high_in : (s : Progression) (lo hi : ℤ) (m : ℕ) → AreEndsOf s lo hi m → Has s hi
high_in s lo hi m h = rw h.last (has_last s h.some)

pub next_in : (s : Progression) (lo hi : ℤ) (m : ℕ) → AreEndsOf s lo hi m → Has s (lo +ℤ pos m)
next_in s lo hi m h = rw (h.first, h.step) (has_next s h.some)

-- a set with a member x and a stride that divides m has each number between two of its members that is congruent to x modulo m
pub has_spaced : (t : Progression) (x lo hi v : ℤ) (m : ℕ) → Has t x → Has t lo → Has t hi → stride_of t ∣ m → lo ≤ℤ v → v ≤ℤ hi → IsCongruent m v x → Has t v
has_spaced t x lo hi v m p low high d from to h =
    let a = spaced_from t lo low in
    let b = spaced_from t hi high in
    has_from t v (some_from t x p) (record {
      from = omega (arith, ints, a.from);
      to = omega (arith, ints, b.to);
      congruent = cong_trans (cong_weaken (stride_of t) d h) (spaced_from t x p).congruent;
    })

-- a stride divides the distance of two members
pub stride_dvd_distance : (t : Progression) (v w : ℤ) → Has t v → Has t w → stride_of t ∣ nat_abs (v -ℤ w)
stride_dvd_distance t v w p q = distance_from_cong (stride_of t) v w (cong_members t v w p q)

pub stride_dvd_step : (t : Progression) (v : ℤ) (m : ℕ) → Has t v → Has t (v +ℤ pos m) → stride_of t ∣ m
stride_dvd_step t v m p q = subst (λ x. stride_of t ∣ x) (omega (arith, ints)) (stride_dvd_distance t (v +ℤ pos m) v q p)

module _ (lo hi : ℤ) (m : ℕ) (lo' hi' : ℤ) (m' g₁ g : ℕ) (inner : IsGcd m m' g₁) (outer : IsGcd g₁ (nat_abs (lo -ℤ lo')) g) where
  dvd_left : g ∣ m
  dvd_left = dvd_trans g outer.0 inner.0

  dvd_right : g ∣ m'
  dvd_right = dvd_trans g outer.0 inner.1

  cong_lows : IsCongruent g lo' lo
  cong_lows = cong_sym (cong_from_distance g lo lo' outer.1)

  pub hull_congruent : AreEnds lo hi m → AreEnds lo' hi' m' → IsCongruent g (int_max hi hi') (int_min lo lo')
  hull_congruent h k =
      let a = cong_weaken g dvd_left h.congruent in
      let b = cong_trans (cong_weaken g dvd_right k.congruent) cong_lows in
      cong_trans (cong_max a b) (cong_sym (cong_min (cong_refl g lo) cong_lows))

  pub hull_is : (a b r : Progression) → AreEndsOf a lo hi m → AreEndsOf b lo' hi' m' → IsExactly (IsSpaced (int_min lo lo') (int_max hi hi') g) r → IsHull (IsInEither a b) r
  hull_is a b r h k exact = record { complete = λ v p. exact.complete v (⊎_elim (left v) (right v) p); least = λ t covers. record { within = λ v p. inside t covers v (exact.sound v p) } }
    where
      begin : IsCongruent g lo (int_min lo lo')
      begin = cong_sym (cong_min (cong_refl g lo) cong_lows)

      left : (v : ℤ) → Has a v → IsSpaced (int_min lo lo') (int_max hi hi') g v
      left v p = let q = spaced_of a lo hi m v h p in record {
        from = omega (arith, ints, clamps, q.from);
        to = omega (arith, ints, clamps, q.to);
        congruent = cong_trans (cong_weaken g dvd_left q.congruent) begin;
      }

      right : (v : ℤ) → Has b v → IsSpaced (int_min lo lo') (int_max hi hi') g v
      right v p = let q = spaced_of b lo' hi' m' v k p in record {
        from = omega (arith, ints, clamps, q.from);
        to = omega (arith, ints, clamps, q.to);
        congruent = cong_trans (cong_weaken g dvd_right q.congruent) (cong_trans cong_lows begin);
      }

      inside : (t : Progression) → ((v : ℤ) → IsInEither a b v → Has t v) → (v : ℤ) → IsSpaced (int_min lo lo') (int_max hi hi') g v → Has t v
      inside t covers v p =
          let low = covers lo (inl (low_in a lo hi m h)) in
          let low' = covers lo' (inr (low_in b lo' hi' m' k)) in
          let high = covers hi (inl (high_in a lo hi m h)) in
          let high' = covers hi' (inr (high_in b lo' hi' m' k)) in
          let d = stride_dvd_step t lo m low (covers _ (inl (next_in a lo hi m h))) in
          let d' = stride_dvd_step t lo' m' low' (covers _ (inr (next_in b lo' hi' m' k))) in
          let whole = outer.2 (stride_of t) (inner.2 (stride_of t) d d') (stride_dvd_distance t lo lo' low low') in
          let s = spaced_from t lo low in
          let s' = spaced_from t lo' low' in
          let e = spaced_from t hi high in
          let e' = spaced_from t hi' high' in
          has_from t v (some_from t lo low) (record {
            from = omega (arith, ints, clamps, s.from, s'.from, p.from);
            to = omega (arith, ints, clamps, e.to, e'.to, p.to);
            congruent = cong_trans (cong_weaken (stride_of t) whole (cong_trans p.congruent (cong_sym begin))) s.congruent;
          })

-- sums
pub sum_is : (a b r : Progression) (lo hi : ℤ) (m : ℕ) (lo' hi' : ℤ) (m' g : ℕ) → AreEndsOf a lo hi m → AreEndsOf b lo' hi' m' → IsGcd m m' g → IsExactly (IsSpaced (lo +ℤ lo') (hi +ℤ hi') g) r → IsHull (IsSum a b) r
sum_is a b r lo hi m lo' hi' m' g h k div exact = record { complete = λ v p. exact.complete v (each v p); least = λ t covers. record { within = λ v p. inside t covers v (exact.sound v p) } }
  where
    each : (v : ℤ) → IsSum a b v → IsSpaced (lo +ℤ lo') (hi +ℤ hi') g v
    each v p =
        let x = spaced_of a lo hi m p.left h p.in_left in
        let y = spaced_of b lo' hi' m' p.right k p.in_right in
        record {
          from = omega (arith, ints, p.sum, x.from, y.from);
          to = omega (arith, ints, p.sum, x.to, y.to);
          congruent = subst (λ z. IsCongruent g z (lo +ℤ lo')) (sym p.sum) (cong_add (cong_weaken g div.0 x.congruent) (cong_weaken g div.1 y.congruent));
        }

    inside : (t : Progression) → ((v : ℤ) → IsSum a b v → Has t v) → (v : ℤ) → IsSpaced (lo +ℤ lo') (hi +ℤ hi') g v → Has t v
    inside t covers v p =
        let low = covers (lo +ℤ lo') (record { left = lo; right = lo'; in_left = low_in a lo hi m h; in_right = low_in b lo' hi' m' k; sum = refl }) in
        let high = covers (hi +ℤ hi') (record { left = hi; right = hi'; in_left = high_in a lo hi m h; in_right = high_in b lo' hi' m' k; sum = refl }) in
        let next = covers ((lo +ℤ lo') +ℤ pos m) (record { left = lo +ℤ pos m; right = lo'; in_left = next_in a lo hi m h; in_right = low_in b lo' hi' m' k; sum = omega (arith, ints) }) in
        let next' = covers ((lo +ℤ lo') +ℤ pos m') (record { left = lo; right = lo' +ℤ pos m'; in_left = low_in a lo hi m h; in_right = next_in b lo' hi' m' k; sum = omega (arith, ints) }) in
        has_spaced t (lo +ℤ lo') (lo +ℤ lo') (hi +ℤ hi') v g low low high
        (div.2 (stride_of t) (stride_dvd_step t (lo +ℤ lo') m low next) (stride_dvd_step t (lo +ℤ lo') m' low next')) p.from p.to p.congruent

pub sum_congruent : (lo hi : ℤ) (m : ℕ) (lo' hi' : ℤ) (m' g : ℕ) → AreEnds lo hi m → AreEnds lo' hi' m' → IsGcd m m' g → IsCongruent g (hi +ℤ hi') (lo +ℤ lo')
sum_congruent lo hi m lo' hi' m' g h k div = cong_add (cong_weaken g div.0 h.congruent) (cong_weaken g div.1 k.congruent)

pub sum_left_empty : (s t : Progression) → s ≡ empty → IsHull (IsSum s t) s
sum_left_empty s t e = hull_of_one (IsSum s t) s (λ v p. absurd (not_in_empty p.left (subst (λ x. Has x p.left) e p.in_left))) (λ v p. absurd (not_in_empty v (subst (λ x. Has x v) e p)))

pub sum_right_empty : (s t : Progression) → t ≡ empty → IsHull (IsSum s t) t
sum_right_empty s t e = hull_of_one (IsSum s t) t (λ v p. absurd (not_in_empty p.right (subst (λ x. Has x p.right) e p.in_right))) (λ v p. absurd (not_in_empty v (subst (λ x. Has x v) e p)))

pub span_low : {s : Progression} {lo hi : ℤ} {m : ℕ} → AreEndsOf s lo hi m → IsInReach lo
span_low h = h.low

pub span_high : {s : Progression} {lo hi : ℤ} {m : ℕ} → AreEndsOf s lo hi m → IsInReach hi
span_high h = h.high
