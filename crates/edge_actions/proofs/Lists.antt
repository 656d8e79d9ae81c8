-- Tests and lists of numbers.
use Rattle.std.specs.Prelude.{◌≡◌, ◌⊎◌, ℕ, ◌<◌, ◌≤◌, nat_le, nat_lt, Bool, true, false, refl}
use Rattle.std.proofs.Common.{sym, ◌∙◌, inl, inr, ⊎_elim, arith}
use Rattle.std.proofs.lemmas.Bool.{true≢false}
use Rattle.std.proofs.lemmas.Bool.Decides.{leb_tells, Decides-ltb}

pub decided : (b : Bool) → (b ≡ true) ⊎ (b ≡ false)
decided true = inl refl
decided false = inr refl

-- tests of numbers
pub le_from : (a b : ℕ) → nat_le a b ≡ true → a ≤ b
le_from a b h = ⊎_elim (λ x. x.1) (λ x. absurd (true≢false (sym h ∙ x.0))) (leb_tells a b)

pub le_test : (a b : ℕ) → a ≤ b → nat_le a b ≡ true
le_test a b h = ⊎_elim (λ x. x.0) (λ x. absurd (above x.1)) (leb_tells a b)
  where
    above : b < a → ⊥
    above less = omega (arith, h, less)

pub lt_from : (a b : ℕ) → nat_lt a b ≡ true → a < b
lt_from a b h = (Decides-ltb a b).0 h

pub lt_test : (a b : ℕ) → a < b → nat_lt a b ≡ true
lt_test a b h = (Decides-ltb a b).1 h
