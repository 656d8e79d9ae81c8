-- Lists to which exactly so much is added, of any kind, and what loops add step by step.
use Rattle.std.specs.Prelude.{◌↔◌, ◌⊎◌, ◌<◌, ℕ, List, Contains}

-- exactly what something holds of is added
abbrev pub AddsTo : {X : Type 0} → List X → List X → (X → Type 0) → Type 0
AddsTo {X} old new is = (x : X) → Contains new x ↔ (Contains old x ⊎ is x)

-- one of the first so many steps adds it
abbrev pub OneBelow : {X : Type 0} → ℕ → (ℕ → X → Type 0) → X → Type 0
OneBelow n is x = (k : ℕ) × (k < n) × is k x
