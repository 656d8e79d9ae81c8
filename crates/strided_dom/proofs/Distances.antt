-- Congruence by distances, sums, products and the lesser of two numbers.
use Rattle.std.proofs.Common.{◌≡◌, ℕ, suc, ◌+◌, ◌*◌, ℤ, pos, negsuc, ◌+ℤ◌, ◌-ℤ◌, ◌*ℤ◌, ◌≤ℤ◌, ◌<ℤ◌, nat_abs, Bool, true, false, int_lt, cond, sym, ap, subst, arith}
use Rattle.std.specs.Int.{◌∣◌, int_min, int_max}
use Rattle.std.proofs.lemmas.Int.{ints, by_lt_z}
use borrow.Author.Differences.{up, down, product_is}
use Rattle.tm_numbers.specs.Congruence.{IsCongruent}
use Rattle.tm_numbers.proofs.Congruences.{cong_sym, cong_from_dvd, dvd_from_cong}

pub cong_from_distance : (m : ℕ) (v w : ℤ) → m ∣ nat_abs (v -ℤ w) → IsCongruent m v w
cong_from_distance m v w h = by_lt_z v w below above
  where
    above : w ≤ℤ v → IsCongruent m v w
    above p = (let e : v ≡ w +ℤ pos (nat_abs (v -ℤ w)) = omega (arith, ints) in subst (λ x. IsCongruent m x w) (sym e) (cong_from_dvd m (nat_abs (v -ℤ w)) w h))

    below : v <ℤ w → IsCongruent m v w
    below p = (let e : w ≡ v +ℤ pos (nat_abs (v -ℤ w)) = omega (arith, ints) in cong_sym (subst (λ x. IsCongruent m x v) (sym e) (cong_from_dvd m (nat_abs (v -ℤ w)) v h)))

pub distance_from_cong : (m : ℕ) (v w : ℤ) → IsCongruent m v w → m ∣ nat_abs (v -ℤ w)
distance_from_cong m v w h = by_lt_z v w below above
  where
    above : w ≤ℤ v → m ∣ nat_abs (v -ℤ w)
    above p = (let e : v ≡ w +ℤ pos (nat_abs (v -ℤ w)) = omega (arith, ints) in dvd_from_cong w (subst (λ x. IsCongruent m x w) e h))

    below : v <ℤ w → m ∣ nat_abs (v -ℤ w)
    below p = (let e : w ≡ v +ℤ pos (nat_abs (v -ℤ w)) = omega (arith, ints) in dvd_from_cong v (subst (λ x. IsCongruent m x v) e (cong_sym h)))

pub cong_add : {m : ℕ} {v w v' w' : ℤ} → IsCongruent m v w → IsCongruent m v' w' → IsCongruent m (v +ℤ v') (w +ℤ w')
cong_add h k = record { left = h.left + k.left; right = h.right + k.right; same = omega (arith, ints) }

pub cong_mul : {m : ℕ} {v w : ℤ} (n : ℤ) → IsCongruent m v w → IsCongruent (m * nat_abs n) (v *ℤ n) (w *ℤ n)
cong_mul {m} {v} {w} (pos p) h = record {
  left = h.left;
  right = h.right;
  same =
      let e : up v + h.left * m + down w ≡ up w + h.right * m + down v = omega (arith, ints, h.same) in
      let e' = ap (λ x. x * p) e in
      omega (arith, ints, product_is v (pos p), product_is w (pos p), e');
}
cong_mul {m} {v} {w} (negsuc p) h = record {
  left = h.right;
  right = h.left;
  same =
      let e : up v + h.left * m + down w ≡ up w + h.right * m + down v = omega (arith, ints, h.same) in
      let e' = ap (λ x. x * suc p) e in
      omega (arith, ints, product_is v (negsuc p), product_is w (negsuc p), e');
}

pub cong_min : {m : ℕ} {v w u : ℤ} → IsCongruent m v u → IsCongruent m w u → IsCongruent m (int_min v w) u
cong_min {m} {v} {w} {u} h k = by (int_lt w v)
  where
    by : (b : Bool) → IsCongruent m (cond b w v) u
    by true = k
    by false = h

pub cong_max : {m : ℕ} {v w u : ℤ} → IsCongruent m v u → IsCongruent m w u → IsCongruent m (int_max v w) u
cong_max {m} {v} {w} {u} h k = by (int_lt w v)
  where
    by : (b : Bool) → IsCongruent m (cond b v w) u
    by true = h
    by false = k
