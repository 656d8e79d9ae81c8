-- Products of the members of a set with one number.
use Rattle.std.proofs.Common.{◌≡◌, ℕ, zero, suc, ◌+◌, ◌*◌, ◌^◌, ◌≤◌, ◌<◌, ℤ, pos, negsuc, ◌+ℤ◌, ◌-ℤ◌, ◌*ℤ◌, ◌≤ℤ◌, ◌<ℤ◌, nat_abs, ap, ◌∙◌, subst, arith, mul-le-mul_right}
use Rattle.std.specs.Int.{int_min, int_max}
use Rattle.std.proofs.lemmas.Int.{ints, clamps, by_lt_z}
use borrow.Author.Differences.{up, down, product_is}
use Rattle.strided_dom.specs.Progression.{Progression, empty, Has, IsExactly, IsSpaced, IsInReach}
use Rattle.tm_numbers.specs.Congruence.{IsCongruent}
use Rattle.strided_dom.specs.Combinations.{IsProduct}
use Rattle.strided_dom.specs.reading.Fields.{AreEnds, AreEndsOf}
use Rattle.tm_numbers.proofs.Congruences.{cong_refl, cong_sym, cong_trans, strides_between}
use Rattle.strided_dom.proofs.Distances.{cong_mul, cong_min, cong_max}
use Rattle.strided_dom.proofs.Members.{not_in_empty}
use Rattle.strided_dom.proofs.Spans.{exactly_same}
use Rattle.strided_dom.proofs.Hulls.{span_from_of, spaced_of, has_of, low_in}

-- the order of products with one number
pub mul_le_pos : (v w : ℤ) (p : ℕ) → v ≤ℤ w → (v *ℤ pos p) ≤ℤ (w *ℤ pos p)
mul_le_pos v w p h =
    let e : up v + down w ≤ up w + down v = omega (arith, ints) in
    omega (arith, ints, product_is v (pos p), product_is w (pos p), mul-le-mul_right p e)

pub mul_le_neg : (v w : ℤ) (q : ℕ) → v ≤ℤ w → (w *ℤ negsuc q) ≤ℤ (v *ℤ negsuc q)
mul_le_neg v w q h =
    let e : up v + down w ≤ up w + down v = omega (arith, ints) in
    omega (arith, ints, product_is v (negsuc q), product_is w (negsuc q), mul-le-mul_right (suc q) e)

pub cancel_pos : (v w : ℤ) (q : ℕ) → (v *ℤ pos (suc q)) ≤ℤ (w *ℤ pos (suc q)) → v ≤ℤ w
cancel_pos v w q h = by_lt_z w v below (λ p. p)
  where
    below : w <ℤ v → v ≤ℤ w
    below p =
        let e : up w + down v + 1 ≤ up v + down w = omega (arith, ints) in
        absurd (omega (arith, ints, product_is v (pos (suc q)), product_is w (pos (suc q)), mul-le-mul_right (suc q) e))

pub cancel_neg : (v w : ℤ) (q : ℕ) → (v *ℤ negsuc q) ≤ℤ (w *ℤ negsuc q) → w ≤ℤ v
cancel_neg v w q h = by_lt_z v w below (λ p. p)
  where
    below : v <ℤ w → w ≤ℤ v
    below p =
        let e : up v + down w + 1 ≤ up w + down v = omega (arith, ints) in
        absurd (omega (arith, ints, product_is v (negsuc q), product_is w (negsuc q), mul-le-mul_right (suc q) e))

pub mul_between : (lo hi x n : ℤ) → lo ≤ℤ x → x ≤ℤ hi → (int_min (lo *ℤ n) (hi *ℤ n) ≤ℤ (x *ℤ n)) × ((x *ℤ n) ≤ℤ int_max (lo *ℤ n) (hi *ℤ n))
mul_between lo hi x (pos p) from to = (omega (arith, ints, clamps, mul_le_pos lo x p from), omega (arith, ints, clamps, mul_le_pos x hi p to))
mul_between lo hi x (negsuc q) from to = (omega (arith, ints, clamps, mul_le_neg x hi q to), omega (arith, ints, clamps, mul_le_neg lo x q from))

module _ (lo hi n : ℤ) (m : ℕ) (ends : AreEnds lo hi m) where
  cong_ends : IsCongruent (m * nat_abs n) (int_min (lo *ℤ n) (hi *ℤ n)) (lo *ℤ n)
  cong_ends = cong_min (cong_refl _ (lo *ℤ n)) (cong_mul n ends.congruent)

  pub times_congruent : IsCongruent (m * nat_abs n) (int_max (lo *ℤ n) (hi *ℤ n)) (int_min (lo *ℤ n) (hi *ℤ n))
  times_congruent = cong_trans (cong_max (cong_refl _ (lo *ℤ n)) (cong_mul n ends.congruent)) (cong_sym cong_ends)

-- a number that is congruent to a product modulo m * |n| is a product with a number that is congruent modulo m
factor_pos : (lo v : ℤ) (m q l r : ℕ) → v +ℤ pos (l * (m * suc q)) ≡ (lo *ℤ pos (suc q)) +ℤ pos (r * (m * suc q)) → v ≡ ((lo +ℤ pos (r * m)) -ℤ pos (l * m)) *ℤ pos (suc q)
factor_pos lo v m q l r e =
    let x = (lo +ℤ pos (r * m)) -ℤ pos (l * m) in
    let d : up x + l * m + down lo ≡ down x + r * m + up lo = omega (arith, ints) in
    let d' = ap (λ y. y * suc q) d in
    omega (arith, ints, product_is lo (pos (suc q)), product_is x (pos (suc q)), d')

factor_neg : (lo v : ℤ) (m q l r : ℕ) → v +ℤ pos (l * (m * suc q)) ≡ (lo *ℤ negsuc q) +ℤ pos (r * (m * suc q)) → v ≡ ((lo +ℤ pos (l * m)) -ℤ pos (r * m)) *ℤ negsuc q
factor_neg lo v m q l r e =
    let x = (lo +ℤ pos (l * m)) -ℤ pos (r * m) in
    let d : up x + r * m + down lo ≡ down x + l * m + up lo = omega (arith, ints) in
    let d' = ap (λ y. y * suc q) d in
    omega (arith, ints, product_is lo (negsuc q), product_is x (negsuc q), d')

product_from : (a : Progression) (lo hi n v : ℤ) (m : ℕ) → AreEndsOf a lo hi m → IsCongruent (m * nat_abs n) v (lo *ℤ n) → int_min (lo *ℤ n) (hi *ℤ n) ≤ℤ v → v ≤ℤ int_max (lo *ℤ n) (hi *ℤ n) → IsProduct a n v
product_from a lo hi (pos zero) v m h c from to =
    record { factor = lo; in_set = low_in a lo hi m h; product = omega (arith, ints, clamps, product_is lo (pos zero), product_is hi (pos zero)) }
product_from a lo hi (pos (suc q)) v m h c from to =
    let x = (lo +ℤ pos (c.right * m)) -ℤ pos (c.left * m) in
    let e = factor_pos lo v m q c.left c.right c.same in
    let ends = mul_le_pos lo hi (suc q) (span_from_of a lo hi m h).ordered in
    let low : (lo *ℤ pos (suc q)) ≤ℤ (x *ℤ pos (suc q)) = rw (← e) (omega (arith, ints, clamps)) in
    let high : (x *ℤ pos (suc q)) ≤ℤ (hi *ℤ pos (suc q)) = rw (← e) (omega (arith, ints, clamps)) in
    record {
      factor = x;
      in_set = has_of a lo hi m x h (record { from = cancel_pos lo x q low; to = cancel_pos x hi q high; congruent = record { left = c.left; right = c.right; same = omega (arith, ints) } });
      product = e;
    }
product_from a lo hi (negsuc q) v m h c from to =
    let x = (lo +ℤ pos (c.left * m)) -ℤ pos (c.right * m) in
    let e = factor_neg lo v m q c.left c.right c.same in
    let ends = mul_le_neg lo hi q (span_from_of a lo hi m h).ordered in
    let low : (x *ℤ negsuc q) ≤ℤ (lo *ℤ negsuc q) = rw (← e) (omega (arith, ints, clamps)) in
    let high : (hi *ℤ negsuc q) ≤ℤ (x *ℤ negsuc q) = rw (← e) (omega (arith, ints, clamps)) in
    record {
      factor = x;
      in_set = has_of a lo hi m x h (record { from = cancel_neg x lo q low; to = cancel_neg hi x q high; congruent = record { left = c.right; right = c.left; same = omega (arith, ints) } });
      product = e;
    }

pub times_is : (a r : Progression) (lo hi n : ℤ) (m : ℕ) → AreEndsOf a lo hi m → IsExactly (IsSpaced (int_min (lo *ℤ n) (hi *ℤ n)) (int_max (lo *ℤ n) (hi *ℤ n)) (m * nat_abs n)) r → IsExactly (IsProduct a n) r
times_is a r lo hi n m h exact = exactly_same _ (IsProduct a n) r back forth exact
  where
    ends : AreEnds lo hi m
    ends = span_from_of a lo hi m h

    back : (v : ℤ) → IsSpaced (int_min (lo *ℤ n) (hi *ℤ n)) (int_max (lo *ℤ n) (hi *ℤ n)) (m * nat_abs n) v → IsProduct a n v
    back v p = product_from a lo hi n v m h (cong_trans p.congruent (cong_ends lo hi n m ends)) p.from p.to

    forth : (v : ℤ) → IsProduct a n v → IsSpaced (int_min (lo *ℤ n) (hi *ℤ n)) (int_max (lo *ℤ n) (hi *ℤ n)) (m * nat_abs n) v
    forth v p =
        let x = spaced_of a lo hi m p.factor h p.in_set in
        let b = mul_between lo hi p.factor n x.from x.to in
        rw p.product (record { from = b.0; to = b.1; congruent = cong_trans (cong_mul n x.congruent) (cong_sym (cong_ends lo hi n m ends)) })

-- the stride of the products fits
steps_far : (k m p : ℕ) (z : ℤ) (d : ℕ) → 0 < k → nat_abs z ≡ k * m * p → nat_abs z ≤ d → m * p ≤ d
steps_far (suc k) m p z d some e h = omega arith
steps_far zero m p z d some e h = absurd (omega arith)

pub times_stride : (lo hi n : ℤ) (m : ℕ) → AreEnds lo hi m → IsInReach (lo *ℤ n) → IsInReach (hi *ℤ n) → m * nat_abs n ≤ 2 ^ 101
times_stride lo hi n m h low high = by k.0 n k.1 low high
  where
    k : (k : ℕ) × (hi ≡ lo +ℤ pos (k * m))
    k = strides_between h.congruent h.ordered

    by : (k : ℕ) (n : ℤ) → hi ≡ lo +ℤ pos (k * m) → IsInReach (lo *ℤ n) → IsInReach (hi *ℤ n) → m * nat_abs n ≤ 2 ^ 101
    by zero n e low high = (let z : m ≡ 0 = h.flat (omega (arith, ints)) in let p : m * nat_abs n ≡ 0 = ap (λ x. x * nat_abs n) z ∙ omega arith in omega arith)
    by (suc k) (pos p) e low high =
        let d : up hi + down lo ≡ down hi + up lo + suc k * m = omega (arith, ints) in
        let d' = ap (λ x. x * p) d in
        omega (arith, ints, product_is lo (pos p), product_is hi (pos p), d', low.low, high.high)
    by (suc k) (negsuc q) e low high =
        let d : up hi + down lo ≡ down hi + up lo + suc k * m = omega (arith, ints) in
        let d' = ap (λ x. x * suc q) d in
        omega (arith, ints, product_is lo (negsuc q), product_is hi (negsuc q), d', low.high, high.low)

pub times_empty : (s : Progression) (n : ℤ) → s ≡ empty → IsExactly (IsProduct s n) s
times_empty s n e = record {
  sound = λ v p. absurd (not_in_empty v (subst (λ x. Has x v) e p));
  complete = λ v p. absurd (not_in_empty p.factor (subst (λ x. Has x p.factor) e p.in_set));
}
