-- Products of integers distribute over sums.
use Rattle.std.proofs.Common.{◌≡◌, ℕ, zero, suc, ◌*◌, ◌/◌, ◌<◌, ℤ, pos, negsuc, neg_ℤ, ◌+ℤ◌, ◌-ℤ◌, ◌*ℤ◌, arith, refl, sym, ap, ◌∙◌, ◌≢◌}
use Rattle.std.specs.Prelude.{int_div}
use Rattle.std.proofs.Math.IntN.{*ℤ_comm, neg_ℤ-neg_ℤ}
use Rattle.std.proofs.Math.Nat.{mul-div_cancel_left}
use Rattle.std.proofs.lemmas.Int.{ints}
use borrow.Author.Differences.{up, down, sum_is_lem, neg_is, product_is, quot_is, same_in}

pub mul_assoc : (a b c : ℤ) → (a *ℤ b) *ℤ c ≡ a *ℤ (b *ℤ c)
mul_assoc a b c =
    let ab = product_is a b in
    let bc = product_is b c in
    omega (
      arith,
      ints,
      ap (λ (t : ℕ). t * up c) ab.0,
      ap (λ (t : ℕ). t * down c) ab.0,
      ap (λ (t : ℕ). t * up c) ab.1,
      ap (λ (t : ℕ). t * down c) ab.1,
      ap (λ (t : ℕ). up a * t) bc.0,
      ap (λ (t : ℕ). down a * t) bc.0,
      ap (λ (t : ℕ). up a * t) bc.1,
      ap (λ (t : ℕ). down a * t) bc.1,
    )

pub add_mul : (a b c : ℤ) → (a +ℤ b) *ℤ c ≡ a *ℤ c +ℤ b *ℤ c
add_mul a b c = omega (arith, ints, ap (λ (t : ℕ). t * up c) (sum_is_lem a b), ap (λ (t : ℕ). t * down c) (sum_is_lem a b))

pub mul_add : (a b c : ℤ) → a *ℤ (b +ℤ c) ≡ a *ℤ b +ℤ a *ℤ c
mul_add a b c = *ℤ_comm a (b +ℤ c) ∙ add_mul b c a ∙ ap (λ (t : ℤ). t +ℤ c *ℤ a) (*ℤ_comm b a) ∙ ap (λ (t : ℤ). a *ℤ b +ℤ t) (*ℤ_comm c a)

pub neg_mul : (a b : ℤ) → neg_ℤ a *ℤ b ≡ neg_ℤ (a *ℤ b)
neg_mul a b =
    let n = neg_is a in
    omega (arith, ints, ap (λ (t : ℕ). t * up b) n.0, ap (λ (t : ℕ). t * down b) n.0, ap (λ (t : ℕ). t * up b) n.1, ap (λ (t : ℕ). t * down b) n.1)

pub mul_neg : (a b : ℤ) → a *ℤ neg_ℤ b ≡ neg_ℤ (a *ℤ b)
mul_neg a b = *ℤ_comm a (neg_ℤ b) ∙ neg_mul b a ∙ ap neg_ℤ (*ℤ_comm b a)

pub sub_mul : (a b c : ℤ) → (a -ℤ b) *ℤ c ≡ a *ℤ c -ℤ b *ℤ c
sub_mul a b c = add_mul a (neg_ℤ b) c ∙ ap (λ (t : ℤ). a *ℤ c +ℤ t) (neg_mul b c)

pub mul_sub : (a b c : ℤ) → a *ℤ (b -ℤ c) ≡ a *ℤ b -ℤ a *ℤ c
mul_sub a b c = mul_add a b (neg_ℤ c) ∙ ap (λ (t : ℤ). a *ℤ b +ℤ t) (mul_neg a c)

-- what two products differ by, by what their factors differ by
pub product_difference : (x y r s : ℤ) → x *ℤ y -ℤ r *ℤ s ≡ ((x -ℤ r) *ℤ (y -ℤ s) +ℤ (x -ℤ r) *ℤ s) +ℤ (y -ℤ s) *ℤ r
product_difference x y r s =
    let e = mul_sub (x -ℤ r) y s in
    let f = sub_mul x r y in
    let g = sub_mul y s r in
    let h = *ℤ_comm y r in
    let k = *ℤ_comm s r in
    linear (x *ℤ y) (r *ℤ s) ((x -ℤ r) *ℤ (y -ℤ s)) ((x -ℤ r) *ℤ s) ((y -ℤ s) *ℤ r) ((x -ℤ r) *ℤ y) (r *ℤ y) (y *ℤ r) (s *ℤ r) e f g h k
  where
    linear : (xy rs p q t u ry yr sr : ℤ) → p ≡ u -ℤ q → u ≡ xy -ℤ ry → t ≡ yr -ℤ sr → yr ≡ ry → sr ≡ rs → xy -ℤ rs ≡ (p +ℤ q) +ℤ t
    linear xy rs p q t u ry yr sr e f g h k = omega (arith, ints)

-- ---- exact quotients

quotient_up : (k : ℕ) (q : ℤ) → 0 < k → (up (int_div (pos k *ℤ q) (pos k)) ≡ up q) × (down (int_div (pos k *ℤ q) (pos k)) ≡ down q)
quotient_up k q h =
    let e : up (pos k *ℤ q) ≡ k * up q = omega (arith, (product_is (pos k) q).0) in
    let f : down (pos k *ℤ q) ≡ k * down q = omega (arith, (product_is (pos k) q).1) in (
      (quot_is (pos k *ℤ q) k).0 ∙ ap (λ (t : ℕ). t / k) e ∙ mul-div_cancel_left (up q) h,
      (quot_is (pos k *ℤ q) k).1 ∙ ap (λ (t : ℕ). t / k) f ∙ mul-div_cancel_left (down q) h,
    )

over_natural : (k : ℕ) (q : ℤ) → 0 < k → int_div (pos k *ℤ q) (pos k) ≡ q
over_natural k q h = let e = quotient_up k q h in same_in _ _ (omega arith)

pub over_negative : (z : ℤ) (d : ℕ) → int_div z (negsuc d) ≡ neg_ℤ (int_div z (pos (suc d)))
over_negative (pos a) d = refl
over_negative (negsuc a) d = sym (neg_ℤ-neg_ℤ (pos (suc a / suc d)))

pub exact_quotient : (b q : ℤ) → b ≢ pos 0 → int_div (b *ℤ q) b ≡ q
exact_quotient (pos zero) q n = absurd (n refl)
exact_quotient (pos (suc k)) q n = over_natural (suc k) q (omega arith)
exact_quotient (negsuc d) q n =
    over_negative (negsuc d *ℤ q) d
    ∙ ap (λ (t : ℤ). neg_ℤ (int_div t (pos (suc d)))) (turned d q)
    ∙ ap neg_ℤ (over_natural (suc d) (neg_ℤ q) (omega arith))
    ∙ neg_ℤ-neg_ℤ q
  where
    turned : (d : ℕ) (q : ℤ) → negsuc d *ℤ q ≡ pos (suc d) *ℤ neg_ℤ q
    turned d q = neg_mul (pos (suc d)) q ∙ sym (mul_neg (pos (suc d)) q)
