-- The toy's sets are a lattice, and its passes are monotone.
use Rattle.std.specs.Prelude.{◌≡◌, ℕ, zero, suc, Bool, true, false, ◌||◌, IsTrue, refl}
use Rattle.std.proofs.Common.{sym, ap, subst}
use Rattle.tm_lattice.specs.LatticeLaws.{IsOrder, IsJoin, IsClosure, IsLeastNothing}
use Rattle.engine_tests.specs.Sets.{NumberSet, IsSubset, union, whole_pairs, empty_set, added_numbers}

abbrev Any : NumberSet → Type 0
Any s = Unit {0}

or_one : (a b : Bool) → IsTrue a → IsTrue (a || b)
or_one true b p = refl
or_one false b p = cc

or_other : (a b : Bool) → IsTrue b → IsTrue (a || b)
or_other true b p = refl
or_other false b p = p

or_least : (a b c : Bool) → (IsTrue a → IsTrue c) → (IsTrue b → IsTrue c) → IsTrue (a || b) → IsTrue c
or_least true b c p q r = p refl
or_least false b c p q r = q r

or_grows : (a b c d : Bool) → (IsTrue a → IsTrue c) → (IsTrue b → IsTrue d) → IsTrue (a || b) → IsTrue (c || d)
or_grows a b c d p q = or_least a b (c || d) (λ x. or_one c d (p x)) (λ x. or_other c d (q x))

or_same : (a : Bool) → (a || a) ≡ a
or_same true = refl
or_same false = refl

equal_bools : (a b : Bool) → (IsTrue a → IsTrue b) → (IsTrue b → IsTrue a) → a ≡ b
equal_bools true b p q = sym (p refl)
equal_bools false true p q = q refl
equal_bools false false p q = refl

not_false : IsTrue false → ⊥
not_false e = cc

pub empty_below : (t : NumberSet) → Any t → IsSubset empty_set t
empty_below t _ =
    (λ e. absurd (not_false e), λ e. absurd (not_false e), λ e. absurd (not_false e), λ e. absurd (not_false e))

pub set_order : IsOrder Any IsSubset
set_order = record {
  reflexive = λ s _. (λ e. e, λ e. e, λ e. e, λ e. e);
  transitive = λ s t u _ _ _ p q. (λ e. q.0 (p.0 e), λ e. q.1 (p.1 e), λ e. q.2 (p.2 e), λ e. q.3 (p.3 e));
  antisymmetric = λ s t _ _ p q i. (
    equal_bools s.0 t.0 p.0 q.0 i,
    equal_bools s.1 t.1 p.1 q.1 i,
    equal_bools s.2 t.2 p.2 q.2 i,
    equal_bools s.3 t.3 p.3 q.3 i,
  );
}

pub set_join : IsJoin Any IsSubset union
set_join = record {
  value = λ s t _ _. tt;
  left = λ s t _ _. (or_one s.0 t.0, or_one s.1 t.1, or_one s.2 t.2, or_one s.3 t.3);
  right = λ s t _ _. (or_other s.0 t.0, or_other s.1 t.1, or_other s.2 t.2, or_other s.3 t.3);
  least = λ s t u _ _ _ p q. (
    or_least s.0 t.0 u.0 p.0 q.0,
    or_least s.1 t.1 u.1 p.1 q.1,
    or_least s.2 t.2 u.2 p.2 q.2,
    or_least s.3 t.3 u.3 p.3 q.3,
  );
}

pub set_closure : IsClosure {M = Unit {0}} Any (λ _. Unit {0}) IsSubset (λ _. whole_pairs)
set_closure = record {
  value = λ _ s _ _. tt;
  extensive = λ _ s _ _. (or_one s.0 s.1, or_other s.0 s.1, or_one s.2 s.3, or_other s.2 s.3);
  monotone = λ _ s t _ _ _ p.
      let low = or_grows s.0 s.1 t.0 t.1 p.0 p.1 in
      let high = or_grows s.2 s.3 t.2 t.3 p.2 p.3 in
      (low, low, high, high);
  idempotent = λ _ s _ _ i.
      (or_same (s.0 || s.1) i, or_same (s.0 || s.1) i, or_same (s.2 || s.3) i, or_same (s.2 || s.3) i);
}

pub set_nothing : IsLeastNothing {M = Unit {0}} Any (λ _. Unit {0}) IsSubset (λ _. whole_pairs) (λ s. s ≡ empty_set)
set_nothing = record {
  below = λ s t is is' none. subst (λ u. IsSubset u t) (sym none) (empty_below t is');
  rounding = λ _ s _ _ none. ap whole_pairs none;
}

pub added_grows : (first : Bool) (task : ℕ) (s t : NumberSet) → IsSubset s t
    → IsSubset (added_numbers first task s) (added_numbers first task t)
added_grows first zero s t p = (λ e. e, λ e. e, λ e. e, λ e. e)
added_grows first (suc task) s t p = (λ e. e, λ e. e, p.0, λ e. e)
