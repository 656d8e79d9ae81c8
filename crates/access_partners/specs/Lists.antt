-- Lists of exactly those that have a property.
use Rattle.std.specs.Prelude.{◌↔◌, ℕ, List, [], ◌∷◌, Contains}
use Rattle.std.specs.List.Sorted.{IsStrictlyIncreasing}

-- exactly these numbers, rising and each once
pub record AreListed (Is : ℕ → Type 0) (numbers : List ℕ) : Type 0 where
  pub rising : IsStrictlyIncreasing numbers
  pub exact : (n : ℕ) → Contains numbers n ↔ Is n

-- of all of these exactly those that are, in their order
pub data AreThose {X : Type 0} (Is : X → Type 0) : List X → List X → Type 0 where
  none : AreThose Is [] []
  kept : {x : X} {all those : List X} → Is x → AreThose Is all those → AreThose Is (x ∷ all) (x ∷ those)
  left_out : {x : X} {all those : List X} → (Is x → ⊥) → AreThose Is all those → AreThose Is (x ∷ all) those

-- two lists of one length, whose elements are related one by one
abbrev pub AreEach : {X Y : Type 0} → (X → Y → Type 0) → List X → List Y → Type 0
AreEach Related [] [] = Unit {0}
AreEach Related (x ∷ xs) (y ∷ ys) = Related x y × AreEach Related xs ys
AreEach Related xs ys = ⊥
