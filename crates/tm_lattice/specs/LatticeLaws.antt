-- What the calls of a lattice keep. `is_value` holds of every value of the type, and `is_marks` of all marks by which
-- one rounds.
use Rattle.std.specs.Prelude.{◌≡◌}

-- `leq` is a partial order
pub record IsOrder {V : Type 0} (is_value : V → Type 0) (leq : V → V → Type 0) : Type 0 where
  pub reflexive : (x : V) → is_value x → leq x x
  pub transitive : (x y z : V) → is_value x → is_value y → is_value z → leq x y → leq y z → leq x z
  pub antisymmetric : (x y : V) → is_value x → is_value y → leq x y → leq y x → x ≡ y

-- `joined` is the least upper bound of two values
pub record IsJoin {V : Type 0} (is_value : V → Type 0) (leq : V → V → Type 0) (joined : V → V → V) : Type 0 where
  pub value : (x y : V) → is_value x → is_value y → is_value (joined x y)
  pub left : (x y : V) → is_value x → is_value y → leq x (joined x y)
  pub right : (x y : V) → is_value x → is_value y → leq y (joined x y)
  pub least : (x y z : V) → is_value x → is_value y → is_value z → leq x z → leq y z → leq (joined x y) z

-- rounding by marks is a closure: extensive, monotone and idempotent
pub record IsClosure {V M : Type 0} (is_value : V → Type 0) (is_marks : M → Type 0) (leq : V → V
    → Type 0) (rounded : M → V → V) : Type 0 where
  pub value : (marks : M) (x : V) → is_marks marks → is_value x → is_value (rounded marks x)
  pub extensive : (marks : M) (x : V) → is_marks marks → is_value x → leq x (rounded marks x)
  pub monotone : (marks : M) (x y : V) → is_marks marks → is_value x → is_value y → leq x y
      → leq (rounded marks x) (rounded marks y)
  pub idempotent : (marks : M) (x : V) → is_marks marks → is_value x → rounded marks (rounded marks x) ≡ rounded marks x

-- a value that is nothing is below every value, and its rounding is nothing
pub record IsLeastNothing {V M : Type 0} (is_value : V → Type 0) (is_marks : M → Type 0) (leq : V → V
    → Type 0) (rounded : M → V → V) (nothing : V → Type 0) : Type 0 where
  pub below : (x y : V) → is_value x → is_value y → nothing x → leq x y
  pub rounding : (marks : M) (x : V) → is_marks marks → is_value x → nothing x → nothing (rounded marks x)
