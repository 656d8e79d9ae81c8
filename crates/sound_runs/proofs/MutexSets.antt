-- The number of a set of mutexes tells which mutexes it has.
use Rattle.std.proofs.Common.{◌≡◌, refl, ap, ◌∙◌, ℕ, zero, suc, ◌+◌, ◌*◌, ◌/◌, ◌%◌, ◌<◌, Bool, true}
use Rattle.std.proofs.Common.{false, arith, eqb}
use Rattle.std.specs.Prelude.{cond}
use Rattle.std.specs.Int.{bit_at}
use Rattle.std.proofs.lemmas.Nat.Bits.{bit_at_lowest, bit_at-suc}
use Rattle.program_shape.specs.mutex_configs.Sets.{has}
use Rattle.sound_runs.specs.Images.{set_below, set_of}

abbrev bit : Bool → ℕ
bit b = cond b 1 0

lowest : (b : Bool) (k : ℕ) → bit_at (bit b + 2 * k) 0 ≡ bit b
lowest true k = bit_at_lowest (1 + 2 * k) ∙ (let e : (1 + 2 * k) % 2 ≡ 1 = omega arith in e)
lowest false k = bit_at_lowest (0 + 2 * k) ∙ (let e : (0 + 2 * k) % 2 ≡ 0 = omega arith in e)

halved : (b : Bool) (k : ℕ) → (bit b + 2 * k) / 2 ≡ k
halved true k = omega arith
halved false k = omega arith

set_bit : (n : ℕ) (f : ℕ → Bool) (m : ℕ) → m < n → bit_at (set_below n f) m ≡ bit (f m)
set_bit zero f m lt = absurd (omega (arith, lt))
set_bit (suc n) f zero lt = lowest (f 0) (set_below n (λ k. f (suc k)))
set_bit (suc n) f (suc m) lt =
    let k : ℕ = set_below n (λ j. f (suc j)) in
    bit_at-suc (bit (f 0) + 2 * k) m ∙ (ap (λ z. bit_at z m) (halved (f 0) k)
    ∙ set_bit n (λ j. f (suc j)) m (omega (arith, lt)))

is_bit : (b : Bool) → eqb (bit b) 1 ≡ b
is_bit true = refl
is_bit false = refl

pub set_is : (f : ℕ → Bool) (m : ℕ) → m < 16 → has (set_of f) m ≡ f m
unfolding set_of
set_is f m lt = ap (λ z. eqb z 1) (set_bit 16 f m lt) ∙ is_bit (f m)
