-- What is left of two sets where a comparison of their members is known to hold.
use Rattle.std.specs.Prelude.{◌≡◌, ◌≢◌, ℤ, ◌<ℤ◌, ◌≤ℤ◌}
use Rattle.strided_dom.specs.Progression.{Progression, Has, IsHull}
use Rattle.tm_cint.specs.declared.operators.BinOp.{BinOp}
use Rattle.tm_cint.specs.declared.operators.BinOp.TheVariants.{Lt, Le, Gt, Ge, Eq, Ne}

-- `x op y` holds.
abbrev pub Compares : BinOp → ℤ → ℤ → Type 0
Compares Lt x y = x <ℤ y
Compares Le x y = x ≤ℤ y
Compares Gt x y = y <ℤ x
Compares Ge x y = y ≤ℤ x
Compares Eq x y = x ≡ y
Compares Ne x y = x ≢ y
Compares op x y = ⊥

-- v is a member of a that is related to some member of b.
pub record HasPartner (Related : ℤ → ℤ → Type 0) (a b : Progression) (v : ℤ) : Type 0 where
  pub member : Has a v
  pub partner : ℤ
  pub in_other : Has b partner
  pub related : Related v partner

-- Where x of a and y of b have `x op y`: x is in `left`, y is in `right`, and these are the least strided sets of which
-- that is true.
pub record IsAssumed (op : BinOp) (a b left right : Progression) : Type 0 where
  pub of_left : IsHull (HasPartner (Compares op) a b) left
  pub of_right : IsHull (HasPartner (λ y x. Compares op x y) b a) right
