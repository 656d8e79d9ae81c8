-- Lists of entries in the order of their keys.
use Rattle.std.specs.Prelude.{◌≡◌, ◌≢◌, ℕ, ◌<◌, ◌≤◌, Bool, true, false, ◌&&◌, List, [], ◌∷◌, Some, None, T, refl}
use Rattle.std.proofs.Common.{◌∙◌, arith}
use Rattle.std.specs.Ordering.{nat_cmp, eq_by_cmp, is_lt}
use Rattle.std.proofs.lemmas.Bool.Decides.{nat_tests}
use Rattle.std.specs.FinMap.{find, is_sorted}
use Rattle.std.specs.FinMap.Entries.{below_all}

pub same_key : (q k : ℕ) → q ≡ k → eq_by_cmp nat_cmp q k ≡ true
same_key q k same = grind (arith, nat_tests)

pub other_key : (q k : ℕ) → q ≢ k → eq_by_cmp nat_cmp q k ≡ false
other_key q k differ = grind (arith, nat_tests)

pub key_less : (q k : ℕ) → T (is_lt (nat_cmp q k)) → q < k
key_less q k less = grind (arith, nat_tests)

pub less_key : (q k : ℕ) → q < k → T (is_lt (nat_cmp q k))
less_key q k less = grind (arith, nat_tests)

pub both_true : (a b : Bool) → T a → T b → T (a && b)
both_true true b p q = q
both_true false b p q = p

pub left_true : (a b : Bool) → T (a && b) → T a
left_true true b p = tt
left_true false b p = p

pub right_true : (a b : Bool) → T (a && b) → T b
right_true true b p = p
right_true false b p = absurd p

module _ {V : Type 0} where
  -- the keys are all above a number
  abbrev pub AllAbove : ℕ → List (ℕ × V) → Type 0
  AllAbove k [] = Unit {0}
  AllAbove k (e ∷ es) = (k < e.0) × AllAbove k es

  AllAbove-from_test : (k : ℕ) (es : List (ℕ × V)) → T (below_all nat_cmp k es) → AllAbove k es
  AllAbove-from_test k [] below = tt
  AllAbove-from_test k (e ∷ es) below = (
    key_less k e.0 (left_true (is_lt (nat_cmp k e.0)) (below_all nat_cmp k es) below),
    AllAbove-from_test k es (right_true (is_lt (nat_cmp k e.0)) (below_all nat_cmp k es) below),
  )

  test_from_AllAbove : (k : ℕ) (es : List (ℕ × V)) → AllAbove k es → T (below_all nat_cmp k es)
  test_from_AllAbove k [] above = tt
  test_from_AllAbove k (e ∷ es) above = both_true (is_lt (nat_cmp k e.0)) (below_all nat_cmp k es)
      (less_key k e.0 above.0) (test_from_AllAbove k es above.1)

  pub AllAbove-rest : (e : ℕ × V) (es : List (ℕ × V)) → T (is_sorted nat_cmp (e ∷ es)) → AllAbove e.0 es
  AllAbove-rest e es sorted = AllAbove-from_test e.0 es
      (left_true (below_all nat_cmp e.0 es) (is_sorted nat_cmp es) sorted)

  pub AllAbove-lower : (k l : ℕ) (es : List (ℕ × V)) → k ≤ l → AllAbove l es → AllAbove k es
  AllAbove-lower k l [] le above = tt
  AllAbove-lower k l (e ∷ es) le above = let here : k < e.0 = omega (arith, above.0) in
      (here, AllAbove-lower k l es le above.1)

  pub is_sorted-rest : (e : ℕ × V) (es : List (ℕ × V)) → T (is_sorted nat_cmp (e ∷ es)) → T (is_sorted nat_cmp es)
  is_sorted-rest e es sorted = right_true (below_all nat_cmp e.0 es) (is_sorted nat_cmp es) sorted

  pub is_sorted-cons : (e : ℕ × V) (es : List (ℕ × V)) → AllAbove e.0 es → T (is_sorted nat_cmp es)
      → T (is_sorted nat_cmp (e ∷ es))
  is_sorted-cons e es above sorted = both_true (below_all nat_cmp e.0 es) (is_sorted nat_cmp es)
      (test_from_AllAbove e.0 es above) sorted

  pub find-here : (key : ℕ) (e : ℕ × V) (es : List (ℕ × V)) → key ≡ e.0 → find nat_cmp key (e ∷ es) ≡ Some e.1
  find-here key e es same = rw (same_key key e.0 same)

  pub find-there : (key : ℕ) (e : ℕ × V) (es : List (ℕ × V)) → key ≢ e.0
      → find nat_cmp key (e ∷ es) ≡ find nat_cmp key es
  find-there key e es differ = rw (other_key key e.0 differ)

  pub find_below : (key : ℕ) (es : List (ℕ × V)) → AllAbove key es → find nat_cmp key es ≡ None
  find_below key [] above = refl
  find_below key (e ∷ es) above = find-there key e es (omega (arith, above.0)) ∙ find_below key es above.1
