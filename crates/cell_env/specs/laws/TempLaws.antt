-- What a state says of a temporary is a lattice, for every lattice of values.
use Rattle.std.specs.Prelude.{◌≡◌, ℕ, ◌≤◌, Bool, true, false, eqb, cond, Option, Some, None, refl}
use Rattle.std.proofs.Common.{sym, ap, ◌∙◌, arith}
use Rattle.tm_lattice.specs.Heights.{IsHeight}
use Rattle.tm_lattice.specs.LatticeLaws.{IsOrder, IsJoin, IsClosure, IsLeastNothing}
use Rattle.cell_env.specs.declared.temps.TempState.{TempState}
use Rattle.cell_env.specs.Temps.{IsCopyBelow, joined_copy, copy_height, IsTemp, IsTempBelow, joined_temp, temp_height}

none_is : (x : ℕ) → (let o : Option ℕ = None in o ≡ Some x) → ⊥
none_is x e = cc

some_is : (x y : ℕ) → (let o : Option ℕ = Some x in o ≡ Some y) → x ≡ y
some_is x y e = cc

pub copy_same : (a b : Option ℕ) → IsCopyBelow a b → IsCopyBelow b a → a ≡ b
copy_same None None p q = refl
copy_same None (Some y) p q = absurd (none_is y (p y refl))
copy_same (Some x) b p q = sym (q x refl)

equal_from : (x y : ℕ) → (let o : Option ℕ = cond (eqb x y) (Some x) None in (z : ℕ) → o ≡ Some z → (x ≡ z) × (y ≡ z))
equal_from x y = λ z e. by_test (eqb x y) refl z e
  where
    by_test : (b : Bool) → eqb x y ≡ b → (z : ℕ) → cond b (Some x) None ≡ Some z → (x ≡ z) × (y ≡ z)
    by_test true is z e = let same : x ≡ y = grind (arith, is) in (some_is x z e, sym same ∙ some_is x z e)
    by_test false is z e = absurd (none_is z e)

pub copy_left : (a b : Option ℕ) → IsCopyBelow a (joined_copy a b)
copy_left None b = λ z e. e
copy_left (Some x) None = λ z e. absurd (none_is z e)
copy_left (Some x) (Some y) = λ z e. ap Some (equal_from x y z e).0

pub copy_right : (a b : Option ℕ) → IsCopyBelow b (joined_copy a b)
copy_right None b = λ z e. absurd (none_is z e)
copy_right (Some x) None = λ z e. e
copy_right (Some x) (Some y) = λ z e. ap Some (equal_from x y z e).1

same_cond : (x y z : ℕ) → x ≡ z → y ≡ z → (let o : Option ℕ = cond (eqb x y) (Some x) None in o ≡ Some z)
same_cond x y z e f = grind (arith, e, f)

pub copy_least : (a b c : Option ℕ) → IsCopyBelow a c → IsCopyBelow b c → IsCopyBelow (joined_copy a b) c
copy_least None b c p q = p
copy_least (Some x) None c p q = λ z e. absurd (none_is z (q z e))
copy_least (Some x) (Some y) c p q = λ z e. same_cond x y z (some_is x z (p z e)) (some_is y z (q z e))

copy_falls : (a b : Option ℕ) → IsCopyBelow a b → copy_height a ≤ copy_height b
copy_falls None None p = omega arith
copy_falls None (Some y) p = absurd (none_is y (p y refl))
copy_falls (Some x) None p = omega arith
copy_falls (Some x) (Some y) p = omega arith

copy_flat : (a b : Option ℕ) → IsCopyBelow a b → copy_height b ≤ copy_height a → a ≡ b
copy_flat None None p le = refl
copy_flat None (Some y) p le = absurd (none_is y (p y refl))
copy_flat (Some x) None p le = absurd (omega arith)
copy_flat (Some x) (Some y) p le = p y refl

module _ {V N : Type 0} where
  module _ (is_value : V → Type 0) (leq : V → V → Type 0) (order : IsOrder is_value leq) where
    pub temp_order : IsOrder (IsTemp {N = N} is_value) (IsTempBelow leq)
    temp_order = record {
      reflexive = λ t t-is. record { value = order.reflexive t.value t-is; copy = λ x e. e };
      transitive = λ t u v t-is u-is v-is p q. record {
        value = order.transitive t.value u.value v.value t-is u-is v-is p.value q.value;
        copy = λ x e. p.copy x (q.copy x e);
      };
      antisymmetric = λ t u t-is u-is p q.
          let v = order.antisymmetric t.value u.value t-is u-is p.value q.value in
          let c = copy_same t.copy u.copy p.copy q.copy in
          λ i. record { value = v i; copy = c i };
    }

  module _ (is_value : V → Type 0) (leq : V → V → Type 0) (joined : V → V → V) (join : IsJoin is_value leq joined) where
    pub temp_join : IsJoin (IsTemp {N = N} is_value) (IsTempBelow leq) (joined_temp joined)
    temp_join = record {
      value = λ t u t-is u-is. join.value t.value u.value t-is u-is;
      left = λ t u t-is u-is. record { value = join.left t.value u.value t-is u-is; copy = copy_left t.copy u.copy };
      right = λ t u t-is u-is. record { value = join.right t.value u.value t-is u-is; copy = copy_right t.copy u.copy };
      least = λ t u v t-is u-is v-is p q. record {
        value = join.least t.value u.value v.value t-is u-is v-is p.value q.value;
        copy = copy_least t.copy u.copy v.copy p.copy q.copy;
      };
    }

  -- a temporary is its own rounding
  module _ {M : Type 0} (is_value : V → Type 0) (is_marks : M → Type 0) (leq : V → V
      → Type 0) (order : IsOrder is_value leq) where
    pub temp_closure : IsClosure (IsTemp {N = N} is_value) is_marks (IsTempBelow leq) (λ marks t. t)
    temp_closure = record {
      value = λ marks t m t-is. t-is;
      extensive = λ marks t m t-is. (temp_order is_value leq order).reflexive t t-is;
      monotone = λ marks t u m t-is u-is p. p;
      idempotent = λ marks t m t-is. refl;
    }

    pub temp_nothing : IsLeastNothing (IsTemp {N = N} is_value) is_marks (IsTempBelow leq) (λ marks t. t) (λ t. ⊥)
    temp_nothing = record { below = λ t u t-is u-is none. absurd none; rounding = λ marks t m t-is none. none }

  module _ (is_value : V → Type 0) (leq : V → V → Type 0) (height : V
      → ℕ) (heights : IsHeight is_value leq height) where
    -- a temporary's height rises where the temporary does
    pub temp_heights : IsHeight (IsTemp {N = N} is_value) (IsTempBelow leq) (temp_height height)
    temp_heights = record {
      climbs = λ t u t-is u-is p.
          let v = heights.climbs t.value u.value t-is u-is p.value in
          let c = copy_falls t.copy u.copy p.copy in
          omega arith;
      strictly = λ t u t-is u-is p flat.
          let v = heights.climbs t.value u.value t-is u-is p.value in
          let c = copy_falls t.copy u.copy p.copy in
          let v' : t.value ≡ u.value = heights.strictly t.value u.value t-is u-is p.value (omega arith) in
          let c' = copy_flat t.copy u.copy p.copy (omega arith) in
          λ i. record { value = v' i; copy = c' i };
    }
