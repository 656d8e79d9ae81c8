-- The test that a type has a value, and the fact.
use Rattle.std.proofs.Common.{◌≡◌, ℤ, ◌&&◌, true, false, T, refl}
use Rattle.std.specs.Prelude as P
use Rattle.tm_cint.specs.IntTypes.{IsIn, is_in}
use Rattle.tm_cint.specs.declared.int_types.IntType.{IntType}

and_true : (p q : P.Bool) → T p → T q → (p && q) ≡ true
and_true true true h k = refl
and_true true false h k = absurd k
and_true false q h k = absurd h

and_parts : (p q : P.Bool) → (p && q) ≡ true → T p × T q
and_parts true true e = (tt, tt)
and_parts true false e = absurd cc
and_parts false q e = absurd cc

pub is_in-true : (t : IntType) (v : ℤ) → IsIn t v → is_in t v ≡ true
is_in-true t v h = and_true _ _ h.at_least.le h.at_most.le

pub IsIn-from_test : (t : IntType) (v : ℤ) → is_in t v ≡ true → IsIn t v
IsIn-from_test t v e = record { at_least = record { le = (and_parts _ _ e).0 }; at_most = record { le = (and_parts _ _ e).1 } }

by_test : (p : P.Bool) → (p ≡ true → ⊥) → p ≡ false
by_test true n = absurd (n refl)
by_test false n = refl

pub is_in-false : (t : IntType) (v : ℤ) → (IsIn t v → ⊥) → is_in t v ≡ false
is_in-false t v n = by_test (is_in t v) (λ e. n (IsIn-from_test t v e))
