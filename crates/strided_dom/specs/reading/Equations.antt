-- Linear equations modulo a number.
use Rattle.std.specs.Prelude.{◌≡◌, ℕ, ◌+◌, ◌*◌, ◌≤◌}
use Rattle.std.specs.Int.{◌∣◌}

-- a * t is c modulo m, k times over, and t is the least number with a multiple that is c modulo m.
pub record IsLeastFactor (a c m t k : ℕ) : Type 0 where
  pub solves : a * t ≡ m * k + c
  pub least : (t' k' : ℕ) → a * t' ≡ m * k' + c → t ≤ t'

-- No multiple of a is c modulo m.
abbrev pub HasNoFactor : ℕ → ℕ → ℕ → Type 0
HasNoFactor a c m = (t k : ℕ) → a * t ≡ m * k + c → ⊥

-- Up to the limit, the multiples of d are exactly the common multiples of m and n.
pub record IsCommonStride (m n limit d : ℕ) : Type 0 where
  pub sound : (j : ℕ) → j ≤ limit → d ∣ j → (m ∣ j) × (n ∣ j)
  pub complete : (j : ℕ) → j ≤ limit → m ∣ j → n ∣ j → d ∣ j
