-- Comparisons of the members of two sets.
use Rattle.std.specs.Prelude.{◌≡◌, ◌⊎◌, Bool, true, ℤ, pos}
use Rattle.strided_dom.specs.Progression.{Progression, Has}

-- Of some member of a and some member of b the test has the answer.
pub record HasPair (test : ℤ → ℤ → Bool) (answer : Bool) (a b : Progression) : Type 0 where
  pub left : ℤ
  pub right : ℤ
  pub in_left : Has a left
  pub in_right : Has b right
  pub is : test left right ≡ answer

-- v is 0, where the comparison may fail, or 1, where it may hold.
abbrev pub IsTruthValue : Bool → Bool → ℤ → Type 0
IsTruthValue may_fail may_hold v = ((may_fail ≡ true) × (v ≡ pos 0)) ⊎ ((may_hold ≡ true) × (v ≡ pos 1))
