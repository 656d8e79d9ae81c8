-- Tests, numbers and lists.
use Rattle.std.specs.Prelude.{◌≡◌, ◌≢◌, ◌↔◌, ◌⊎◌, ℕ, Bool, true, false, ◌||◌, cond, eqb, IsTrue, List, [], ◌∷◌, ◌++◌, refl}
use Rattle.std.proofs.Common.{sym, ap, ◌∙◌, inl, inr}
use Rattle.std.proofs.lemmas.Bool.{eq-eqb, ne_eqb}
use Rattle.pointer_dom.specs.Values.{Values, no_value}
use Rattle.calculations.specs.transfer_rows.StateForms.{is_no_value}
use Rattle.calculations.specs.transfer_rows.Accesses.{is_among}
use Rattle.calculations.proofs.low.transfer_rows.Steps.{no_value_is, none_is_none}

pub decided : (b : Bool) → (b ≡ true) ⊎ (b ≡ false)
decided true = inl refl
decided false = inr refl

-- two tests that hold in the same cases
pub same_test : (a b : Bool) → (a ≡ true → b ≡ true) → (b ≡ true → a ≡ true) → a ≡ b
same_test true true f g = refl
same_test false false f g = refl
same_test true false f g = sym (f refl)
same_test false true f g = g refl

pub or_right_none : (b : Bool) → (b || false) ≡ b
or_right_none true = refl
or_right_none false = refl

or_assoc : (a b c : Bool) → (a || (b || c)) ≡ ((a || b) || c)
or_assoc true b c = refl
or_assoc false b c = refl

-- one number more
pub is_among_more : (xs : List ℕ) (x y : ℕ) → is_among (xs ++ x ∷ []) y ≡ (is_among xs y || eqb y x)
is_among_more [] x y = or_right_none (eqb y x)
is_among_more (z ∷ xs) x y = ap (λ b. eqb y z || b) (is_among_more xs x y) ∙ or_assoc (eqb y z) (is_among xs y) (eqb y x)

pub same_eqb : (x y : ℕ) → y ≡ x → eqb y x ≡ true
same_eqb x y e = eq-eqb y x e

pub among_more_here : (xs : List ℕ) (x y : ℕ) → y ≡ x → is_among (xs ++ x ∷ []) y ≡ true
among_more_here xs x y e = is_among_more xs x y ∙ ap (λ b. is_among xs y || b) (eq-eqb y x e) ∙ or_true (is_among xs y)
  where
    or_true : (b : Bool) → (b || true) ≡ true
    or_true true = refl
    or_true false = refl

pub among_more_there : (xs : List ℕ) (x y : ℕ) → y ≢ x → is_among (xs ++ x ∷ []) y ≡ is_among xs y
among_more_there xs x y differ = is_among_more xs x y ∙ ap (λ b. is_among xs y || b) (ne_eqb y x differ) ∙ or_right_none (is_among xs y)

-- the code's test that nothing is in a value
pub nothing_test : (b : Bool) (v : Values) → IsTrue b ↔ (v ≡ no_value) → b ≡ is_no_value v
nothing_test b v h = same_test b (is_no_value v) (λ sure. ap is_no_value (h.0 sure) ∙ none_is_none) (λ none. h.1 (no_value_is v none))

pub something : (b : Bool) (v : Values) → IsTrue b ↔ (v ≡ no_value) → b ≡ false → is_no_value v ≡ false
something b v h never = sym (nothing_test b v h) ∙ never

pub cond_true : {A : Type 0} (b : Bool) (x y : A) → b ≡ true → cond b x y ≡ x
cond_true b x y e = ap (λ k. cond k x y) e

pub cond_false : {A : Type 0} (b : Bool) (x y : A) → b ≡ false → cond b x y ≡ y
cond_false b x y e = ap (λ k. cond k x y) e
