-- The integers that each operation on strided sets is about.
use Rattle.std.specs.Prelude.{◌≡◌, ◌≢◌, ◌⊎◌, ℤ, ◌+ℤ◌, ◌*ℤ◌}
use Rattle.strided_dom.specs.Progression.{Progression, Has}

-- The union: v is a member of s or of t.
abbrev pub IsInEither : Progression → Progression → ℤ → Type 0
IsInEither s t v = Has s v ⊎ Has t v

-- The intersection: v is a member of both.
abbrev pub IsInBoth : Progression → Progression → ℤ → Type 0
IsInBoth s t v = Has s v × Has t v

-- v is a member of s, and is not w.
abbrev pub IsAnother : Progression → ℤ → ℤ → Type 0
IsAnother s w v = Has s v × (v ≢ w)

-- v is the sum of a member of s and a member of t.
pub record IsSum (s t : Progression) (v : ℤ) : Type 0 where
  pub left : ℤ
  pub right : ℤ
  pub in_left : Has s left
  pub in_right : Has t right
  pub sum : v ≡ left +ℤ right

-- v is the product of a member of s with n.
pub record IsProduct (s : Progression) (n v : ℤ) : Type 0 where
  pub factor : ℤ
  pub in_set : Has s factor
  pub product : v ≡ factor *ℤ n
