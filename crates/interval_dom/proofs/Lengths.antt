-- How many binary digits a number has.
use Rattle.std.proofs.Common.{◌≡◌, ℕ, zero, suc, ◌*◌, ◌/◌, ◌^◌, ◌<◌, ◌≤◌, Bool, true, false, nat_eq, arith, refl}
use Rattle.std.specs.Prelude.{if◌then◌else◌}
use Rattle.std.proofs.Math.Nat.{pow-suc, pow-le-pow_right}
use Rattle.interval_dom.specs.Bitwise.{digits_within, bit_length}

not_zero : (n : ℕ) → nat_eq n 0 ≡ false → 0 < n
not_zero n e = grind arith

one_more : (t : Bool) (n d : ℕ) → nat_eq n 0 ≡ t → (nat_eq n 0 ≡ false → n < 2 ^ suc d) → n < 2 ^ (if t then 0 else suc d)
one_more true n d e f = grind arith
one_more false n d e f = f e

within_below : (f n : ℕ) → n ≤ f → n < 2 ^ digits_within f n
within_below zero n h = omega arith
within_below (suc f) n h = one_more (nat_eq n 0) n (digits_within f (n / 2)) refl (λ e.
    let p = not_zero n e in
    let half : n / 2 ≤ f = omega arith in
    let k = within_below f (n / 2) half in
    omega (arith, pow-suc 2 (digits_within f (n / 2))))

one_fewer : (t : Bool) (n d j : ℕ) → nat_eq n 0 ≡ t → n < 2 ^ j → ((i : ℕ) → n / 2 < 2 ^ i → d ≤ i) → (if t then 0 else suc d) ≤ j
one_fewer true n d j e h f = omega arith
one_fewer false n d zero e h f = absurd (omega (arith, not_zero n e))
one_fewer false n d (suc i) e h f = let half : n / 2 < 2 ^ i = omega (arith, pow-suc 2 i) in omega (arith, f i half)

within_least : (f n j : ℕ) → n < 2 ^ j → digits_within f n ≤ j
within_least zero n j h = omega arith
within_least (suc f) n j h = one_fewer (nat_eq n 0) n (digits_within f (n / 2)) j refl h (λ i k. within_least f (n / 2) i k)

pub below_length : (n : ℕ) → n < 2 ^ bit_length n
unfolding bit_length
below_length n = within_below n n (omega arith)

pub length_least : (n j : ℕ) → n < 2 ^ j → bit_length n ≤ j
unfolding bit_length
length_least n j h = within_least n n j h

pub length_grows : (m n : ℕ) → m ≤ n → bit_length m ≤ bit_length n
length_grows m n h = length_least m (bit_length n) (omega (arith, below_length n))

-- the power of two just below n tells its length
pub length_is : (n r : ℕ) → 2 ^ r ≤ n → n < 2 * 2 ^ r → bit_length n ≡ suc r
length_is n r h k =
    let most = length_least n (suc r) (omega (arith, pow-suc 2 r)) in
    let few : bit_length n ≤ r → 2 ^ bit_length n ≤ 2 ^ r = λ (t : bit_length n ≤ r). pow-le-pow_right (omega arith) t in
    by_order (bit_length n) r most (λ t. omega (arith, few t, below_length n))
  where
    by_order : (m r : ℕ) → m ≤ suc r → (m ≤ r → ⊥) → m ≡ suc r
    by_order m r h f = omega (arith, f)

pub length_zero : bit_length 0 ≡ 0
length_zero = let h = length_least 0 0 (omega arith) in omega arith
