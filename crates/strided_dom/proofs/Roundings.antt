-- Rounding onto thresholds is a closure.
use Rattle.std.proofs.Common.{◌≡◌, ℕ, zero, suc, ◌<◌, ◌⊎◌, inl, inr, ⊎_elim, List, [], ◌∷◌, length, Contains, ℤ, ◌≤ℤ◌, ◌<ℤ◌, slice_index_or, refl, arith}
use Rattle.std.specs.Int.{◌∣◌}
use Rattle.std.proofs.lemmas.Int.{ints, by_lt_z}
use Rattle.strided_dom.specs.Progression.{Progression, Has, IsSubset, IsExactly, IsLeastNumber, IsGreatestNumber, first_of, last_of, stride_of}
use Rattle.strided_dom.specs.Rounding.{IsMarkBelow, IsMarkAbove, IsLowered, IsRaised, IsInRounding}
use Rattle.tm_numbers.proofs.Congruences.{cong_sym, cong_trans, cong_weaken, dvd_from_cong}
use Rattle.strided_dom.proofs.Members.{some_from, spaced_from, has_last, has_next, stride_dvd, below_antisym}

-- membership in a longer list
contains_head : (x : ℤ) (xs : List ℤ) → Contains (x ∷ xs) x
contains_head x xs = (0, omega arith, refl)

contains_tail : (x y : ℤ) (xs : List ℤ) → Contains xs y → Contains (x ∷ xs) y
contains_tail x y xs h = (suc h.0, omega (arith, h.1), h.2)

contains_either : (x y : ℤ) (xs : List ℤ) → Contains (x ∷ xs) y → (x ≡ y) ⊎ Contains xs y
contains_either x y xs h = by h.0 h.1 h.2
  where
    by : (k : ℕ) → k < length (x ∷ xs) → slice_index_or (x ∷ xs) k y ≡ y → (x ≡ y) ⊎ Contains xs y
    by zero p e = inl e
    by (suc k) p e = inr (k, omega arith, e)

contains_nil : (y : ℤ) → Contains [] y → ⊥
contains_nil y h = omega (arith, h.1)

-- each number can be moved down and up
pub lowered_exists : (marks : List ℤ) (v : ℤ) → (low : ℤ) × IsLowered marks v low
lowered_exists [] v = (v, inr (refl, λ x p. contains_nil x p.0))
lowered_exists (x ∷ xs) v = by_lt_z v x (λ above. skip (lowered_exists xs v) above) (λ below. take (lowered_exists xs v) below)
  where
    skip : (low : ℤ) × IsLowered xs v low → v <ℤ x → (low : ℤ) × IsLowered (x ∷ xs) v low
    skip r above = (
      r.0,
      ⊎_elim
          (λ g. inl (record { member = (contains_tail x r.0 xs g.member.0, g.member.1); bound = λ y p. ⊎_elim (λ e. omega (arith, ints, p.1)) (λ c. g.bound y (c, p.1)) (contains_either x y xs p.0) }))
          (λ n. inr (n.0, λ y p. ⊎_elim (λ e. omega (arith, ints, p.1)) (λ c. n.1 y (c, p.1)) (contains_either x y xs p.0))) r.1,
    )

    better : (low : ℤ) → IsGreatestNumber (IsMarkBelow xs v) low → x ≤ℤ v → (low : ℤ) × IsLowered (x ∷ xs) v low
    better low g below = by_lt_z x low
        (λ less. (low, inl (record { member = (contains_tail x low xs g.member.0, g.member.1); bound = λ y p. ⊎_elim (λ e. omega (arith, ints)) (λ c. g.bound y (c, p.1)) (contains_either x y xs p.0) })))
        (λ more. (x, inl (record { member = (contains_head x xs, below); bound = λ y p. ⊎_elim (λ e. omega (arith, ints)) (λ c. (let b = g.bound y (c, p.1) in omega (arith, ints))) (contains_either x y xs p.0) })))

    take : (low : ℤ) × IsLowered xs v low → x ≤ℤ v → (low : ℤ) × IsLowered (x ∷ xs) v low
    take r below = ⊎_elim (λ g. better r.0 g below)
        (λ n. (x, inl (record { member = (contains_head x xs, below); bound = λ y p. ⊎_elim (λ e. omega (arith, ints)) (λ c. absurd (n.1 y (c, p.1))) (contains_either x y xs p.0) }))) r.1

pub raised_exists : (marks : List ℤ) (v : ℤ) → (high : ℤ) × IsRaised marks v high
raised_exists [] v = (v, inr (refl, λ x p. contains_nil x p.0))
raised_exists (x ∷ xs) v = by_lt_z x v (λ below. skip (raised_exists xs v) below) (λ above. take (raised_exists xs v) above)
  where
    skip : (high : ℤ) × IsRaised xs v high → x <ℤ v → (high : ℤ) × IsRaised (x ∷ xs) v high
    skip r below = (
      r.0,
      ⊎_elim
          (λ g. inl (record { member = (contains_tail x r.0 xs g.member.0, g.member.1); bound = λ y p. ⊎_elim (λ e. omega (arith, ints, p.1)) (λ c. g.bound y (c, p.1)) (contains_either x y xs p.0) }))
          (λ n. inr (n.0, λ y p. ⊎_elim (λ e. omega (arith, ints, p.1)) (λ c. n.1 y (c, p.1)) (contains_either x y xs p.0))) r.1,
    )

    better : (high : ℤ) → IsLeastNumber (IsMarkAbove xs v) high → v ≤ℤ x → (high : ℤ) × IsRaised (x ∷ xs) v high
    better high g above = by_lt_z high x
        (λ less. (high, inl (record { member = (contains_tail x high xs g.member.0, g.member.1); bound = λ y p. ⊎_elim (λ e. omega (arith, ints)) (λ c. g.bound y (c, p.1)) (contains_either x y xs p.0) })))
        (λ more. (x, inl (record { member = (contains_head x xs, above); bound = λ y p. ⊎_elim (λ e. omega (arith, ints)) (λ c. (let b = g.bound y (c, p.1) in omega (arith, ints))) (contains_either x y xs p.0) })))

    take : (high : ℤ) × IsRaised xs v high → v ≤ℤ x → (high : ℤ) × IsRaised (x ∷ xs) v high
    take r above = ⊎_elim (λ g. better r.0 g above)
        (λ n. (x, inl (record { member = (contains_head x xs, above); bound = λ y p. ⊎_elim (λ e. omega (arith, ints)) (λ c. absurd (n.1 y (c, p.1))) (contains_either x y xs p.0) }))) r.1

pub lowered_le : (marks : List ℤ) (v low : ℤ) → IsLowered marks v low → low ≤ℤ v
lowered_le marks v low h = ⊎_elim (λ g. g.member.1) (λ n. omega (arith, ints, n.0)) h

pub raised_le : (marks : List ℤ) (v high : ℤ) → IsRaised marks v high → v ≤ℤ high
raised_le marks v high h = ⊎_elim (λ g. g.member.1) (λ n. omega (arith, ints, n.0)) h

-- a lesser number is moved to a lesser one, and a number between v and where it goes is moved no further
pub lowered_mono : (marks : List ℤ) (v v' low low' : ℤ) → v' ≤ℤ v → IsLowered marks v low → IsLowered marks v' low' → low' ≤ℤ low
lowered_mono marks v v' low low' le (inl g) (inl g') = g.bound low' (g'.member.0, omega (arith, ints, g'.member.1))
lowered_mono marks v v' low low' le (inl g) (inr n') =
    by_lt_z low v' (λ p. absurd (n'.1 low (g.member.0, omega (arith, ints)))) (λ p. omega (arith, ints, n'.0))
lowered_mono marks v v' low low' le (inr n) (inl g') = absurd (n.1 low' (g'.member.0, omega (arith, ints, g'.member.1)))
lowered_mono marks v v' low low' le (inr n) (inr n') = omega (arith, ints, n.0, n'.0)

pub raised_mono : (marks : List ℤ) (v v' high high' : ℤ) → v ≤ℤ v' → IsRaised marks v high → IsRaised marks v' high' → high ≤ℤ high'
raised_mono marks v v' high high' le (inl g) (inl g') = g.bound high' (g'.member.0, omega (arith, ints, g'.member.1))
raised_mono marks v v' high high' le (inl g) (inr n') =
    by_lt_z v' high (λ p. absurd (n'.1 high (g.member.0, omega (arith, ints)))) (λ p. omega (arith, ints, n'.0))
raised_mono marks v v' high high' le (inr n) (inl g') = absurd (n.1 high' (g'.member.0, omega (arith, ints, g'.member.1)))
raised_mono marks v v' high high' le (inr n) (inr n') = omega (arith, ints, n.0, n'.0)

lowered_again : (marks : List ℤ) (v u low low' : ℤ) → low ≤ℤ u → u ≤ℤ v → IsLowered marks v low → IsLowered marks u low' → low ≤ℤ low'
lowered_again marks v u low low' from to (inl g) (inl g') = g'.bound low (g.member.0, from)
lowered_again marks v u low low' from to (inl g) (inr n') = omega (arith, ints, n'.0)
lowered_again marks v u low low' from to (inr n) (inl g') = absurd (n.1 low' (g'.member.0, omega (arith, ints, g'.member.1)))
lowered_again marks v u low low' from to (inr n) (inr n') = omega (arith, ints, n'.0)

raised_again : (marks : List ℤ) (v u high high' : ℤ) → u ≤ℤ high → v ≤ℤ u → IsRaised marks v high → IsRaised marks u high' → high' ≤ℤ high
raised_again marks v u high high' to from (inl g) (inl g') = g'.bound high (g.member.0, to)
raised_again marks v u high high' to from (inl g) (inr n') = omega (arith, ints, n'.0)
raised_again marks v u high high' to from (inr n) (inl g') = absurd (n.1 high' (g'.member.0, omega (arith, ints, g'.member.1)))
raised_again marks v u high high' to from (inr n) (inr n') = omega (arith, ints, n'.0)

-- the three laws
pub rounding_extensive : (marks : List ℤ) (s r : Progression) → IsExactly (IsInRounding marks s) r → IsSubset s r
rounding_extensive marks s r h = record { within = λ v p. h.complete v (kept v p) }
  where
    kept : (v : ℤ) → Has s v → IsInRounding marks s v
    kept v p =
        let q = spaced_from s v p in
        let low = lowered_exists marks (first_of s) in
        let high = raised_exists marks (last_of s) in
        let a = lowered_le marks (first_of s) low.0 low.1 in
        let b = raised_le marks (last_of s) high.0 high.1 in
        record {
          low = low.0;
          high = high.0;
          some = some_from s v p;
          lowered = low.1;
          raised = high.1;
          from = omega (arith, ints, q.from);
          to = omega (arith, ints, q.to);
          congruent = q.congruent;
        }

pub rounding_monotone : (marks : List ℤ) (s t r u : Progression) → IsSubset s t → IsExactly (IsInRounding marks s) r → IsExactly (IsInRounding marks t) u → IsSubset r u
rounding_monotone marks s t r u below h k = record { within = λ v p. k.complete v (moved v (h.sound v p)) }
  where
    moved : (v : ℤ) → IsInRounding marks s v → IsInRounding marks t v
    moved v p =
        let first = below.within _ p.some in
        let a = spaced_from t _ first in
        let b = spaced_from t _ (below.within _ (has_last s p.some)) in
        let low = lowered_exists marks (first_of t) in
        let high = raised_exists marks (last_of t) in
        let c = lowered_mono marks (first_of s) (first_of t) p.low low.0 a.from p.lowered low.1 in
        let d = raised_mono marks (last_of s) (last_of t) p.high high.0 b.to p.raised high.1 in
        record {
          low = low.0;
          high = high.0;
          some = some_from t _ first;
          lowered = low.1;
          raised = high.1;
          from = omega (arith, ints, p.from);
          to = omega (arith, ints, p.to);
          congruent = cong_trans (cong_weaken (stride_of t) (stride_dvd s t p.some below) p.congruent) a.congruent;
        }

pub rounding_idempotent : (marks : List ℤ) (s r u : Progression) → IsExactly (IsInRounding marks s) r → IsExactly (IsInRounding marks r) u → u ≡ r
rounding_idempotent marks s r u h k =
    below_antisym u r (record { within = λ v p. h.complete v (back v (k.sound v p)) }) (rounding_extensive marks r u k)
  where
    extensive : IsSubset s r
    extensive = rounding_extensive marks s r h

    back : (v : ℤ) → IsInRounding marks r v → IsInRounding marks s v
    back v p =
        let x = h.sound _ p.some in
        let y = h.sound _ (has_last r p.some) in
        let z = h.sound _ (has_next r p.some) in
        let first = spaced_from r _ (extensive.within _ x.some) in
        let last = spaced_from r _ (extensive.within _ (has_last s x.some)) in
        let a = lowered_again marks (first_of s) (first_of r) x.low p.low x.from first.from x.lowered p.lowered in
        let b = raised_again marks (last_of s) (last_of r) y.high p.high y.to last.to y.raised p.raised in
        let d : stride_of s ∣ stride_of r = dvd_from_cong (first_of r) (cong_trans z.congruent (cong_sym x.congruent)) in
        record {
          low = x.low;
          high = y.high;
          some = x.some;
          lowered = x.lowered;
          raised = y.raised;
          from = omega (arith, ints, p.from);
          to = omega (arith, ints, p.to);
          congruent = cong_trans (cong_weaken (stride_of s) d p.congruent) x.congruent;
        }
