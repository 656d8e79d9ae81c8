-- Offsets that 128 bits do not hold lie outside every object.
use Rattle.std.proofs.Common.{◌≡◌, ℕ, ◌<◌, ◌≤◌, ◌⊎◌, inl, inr, ℤ, pos, negsuc, ◌+ℤ◌, Bool, true, false, if◌then◌else◌}
use Rattle.std.proofs.Common.{Option, Some, None, refl, ap, arith}
use Rattle.std.proofs.lemmas.Int.{ints}
use Rattle.std.proofs.lemmas.Bool.{lt-leb, cases_lt}
use Rattle.std.specs.Int.{w128}
use Rattle.std.specs.Int.RustNames.{FitsSigned}
use Rattle.concrete_values.specs.declared.values.Pointer.{Pointer}
use Rattle.concrete_values.specs.declared.values.Pointer.TheVariants.{To}
use Rattle.concrete_values.specs.Pointers.{placed}

beyond : (size o k : ℕ) → size < k → placed (Some size) o (pos k) ≡ None
beyond size o k h = ap (λ b. if b then Some (To o k) else None) (lt-leb k size h)

far_by : (size o k : ℕ) → (size < k) ⊎ (k ≤ size) → (k ≤ size → ⊥) → placed (Some size) o (pos k) ≡ None
far_by size o k (inl h) g = beyond size o k h
far_by size o k (inr h) g = absurd (g h)

pub far : (size o : ℕ) (z : ℤ) → size < 4294967296 → (FitsSigned w128 z → ⊥) → placed (Some size) o z ≡ None
far size o (pos k) h g = far_by size o k (cases_lt size k) (λ le. g (omega (arith, ints, h, le)))
far size o (negsuc k) h g = refl

pub far_step : (size o from : ℕ) (step z : ℤ) → size < 4294967296 → from < 4294967296 → z ≡ pos from +ℤ step
    → (FitsSigned w128 step → ⊥) → placed (Some size) o z ≡ None
far_step size o from step (pos k) h f e g =
    far_by size o k (cases_lt size k) (λ le. g (omega (arith, ints, h, f, e, le)))
far_step size o from step (negsuc k) h f e g = refl
