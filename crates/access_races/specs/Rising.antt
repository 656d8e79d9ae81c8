-- Lists that rise.
use Rattle.std.specs.Prelude.{List, [], ◌∷◌, Contains}

-- each comes before all behind it
abbrev pub AreRising : {X : Type 0} → (X → X → Type 0) → List X → Type 0
AreRising Before [] = Unit {0}
AreRising {X} Before (x ∷ xs) = ((y : X) → Contains xs y → Before x y) × AreRising Before xs
