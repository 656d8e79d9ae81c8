-- Cells of types, step by step.
use Rattle.std.proofs.Common.{◌≡◌, ℕ, zero, suc, ◌+◌, ◌-◌, ◌<◌, ◌≤◌, true, false, cond, ◌&&◌, nat_le, List, ◌∷◌, Option, Some, None, refl, ap, sym, ◌∙◌, inl, inr, add-one, arith}
use Rattle.std.proofs.lemmas.Bool.{cases_lt}
use Rattle.std.proofs.Math.Bool.{and-false}
use Rattle.tm_typed.specs.declared.types.Scalar.{Scalar}
use Rattle.tm_typed.specs.declared.scopes.Member.{Member}
use Rattle.tm_typed.specs.Scopes.{Scope, or_else, entry, ctype_of}
use Rattle.tm_typed.specs.StaticValues.{part_at, Found, a_scalar, inside, nowhere, look_in, scalar_in}
use Rattle.tm_typed.specs.StaticValues.{scalar_at, is_same_scalar, stand_from}

-- the member that is found so far, or a later one
pub part_step : (c : ℕ) (m : Member) (ms : List Member) (last : Option Member) →
    or_else (part_at c (m ∷ ms)) last ≡ or_else (part_at c ms) (or_else (cond (nat_le m.part.cell c) (Some m) None) last)
part_step c m ms last = elim (part_at c ms) as (λ f. or_else (or_else f (cond (nat_le m.part.cell c) (Some m) None)) last ≡ or_else f (or_else (cond (nat_le m.part.cell c) (Some m) None) last)) [ None ↦ refl | Some k ↦ refl ]

-- ## The way to a cell

more : (n i : ℕ) → i < n → n - i ≡ suc (n - (i + 1))
more n i below = omega arith

-- the scalar is reached
pub way_found : (scope : Scope) (n i : ℕ) (f : Found) (t : Scalar) (want : Option Scalar) → i < n → f ≡ a_scalar t → scalar_in scope (n - i) f ≡ want → Some t ≡ want
unfolding scalar_in
way_found scope n i f t want below e h = sym (ap (λ k. scalar_in scope k f) (more n i below) ∙ ap (λ g. scalar_in scope (suc (n - (i + 1))) g) e) ∙ h

-- there is none
pub way_lost : (scope : Scope) (n i : ℕ) (f : Found) (want : Option Scalar) → i < n → f ≡ nowhere → scalar_in scope (n - i) f ≡ want → None ≡ want
unfolding scalar_in
way_lost scope n i f want below e h = sym (ap (λ k. scalar_in scope k f) (more n i below) ∙ ap (λ g. scalar_in scope (suc (n - (i + 1))) g) e) ∙ h

-- one type less
pub way_step : (scope : Scope) (n i m c : ℕ) (f g : Found) (want : Option Scalar) → i < n → f ≡ inside m c → g ≡ look_in scope (entry scope m) (ctype_of scope m) c
    → scalar_in scope (n - i) f ≡ want → scalar_in scope (n - (i + 1)) g ≡ want
unfolding scalar_in
way_step scope n i m c f g want below e l h =
    ap (λ x. scalar_in scope (n - (i + 1)) x) l
    ∙ sym (ap (λ k. scalar_in scope k f) (more n i below) ∙ ap (λ x. scalar_in scope (suc (n - (i + 1))) x) e)
    ∙ h

-- no type is left
pub way_ended : (scope : Scope) (n i : ℕ) (f : Found) (want : Option Scalar) → n ≤ i → scalar_in scope (n - i) f ≡ want → None ≡ want
unfolding scalar_in
way_ended scope n i f want over h = let none : n - i ≡ zero = omega arith in sym (ap (λ k. scalar_in scope k f) none) ∙ h

-- ## Cells one after the other

pub stand_none : (scope : Scope) (n c m : ℕ) → stand_from scope n c m zero ≡ true
unfolding stand_from
stand_none scope n c m = refl

stand_step : (scope : Scope) (n c m k : ℕ) → stand_from scope n c m (suc k) ≡ (is_same_scalar (scalar_at scope n (c + k)) (scalar_at scope m k) && stand_from scope n c m k)
unfolding stand_from
stand_step scope n c m k = refl

-- one more cell that is the same
pub stand_more : (scope : Scope) (n c m k : ℕ) → is_same_scalar (scalar_at scope n (c + k)) (scalar_at scope m k) ≡ true → stand_from scope n c m k ≡ true → stand_from scope n c m (k + 1) ≡ true
stand_more scope n c m k here before =
    ap (λ j. stand_from scope n c m j) (add-one k) ∙ stand_step scope n c m k ∙ ap (λ b. b && stand_from scope n c m k) here ∙ before

-- a cell that differs
pub stand_less : (scope : Scope) (n c m k i : ℕ) → i < k → is_same_scalar (scalar_at scope n (c + i)) (scalar_at scope m i) ≡ false → stand_from scope n c m k ≡ false
stand_less scope n c m zero i below here = absurd (omega arith)
stand_less scope n c m (suc k) i below here =
    elim (cases_lt i k) [
      | inl less ↦ stand_step scope n c m k ∙ ap (λ b. is_same_scalar (scalar_at scope n (c + k)) (scalar_at scope m k) && b) (stand_less scope n c m k i less here) ∙ and-false (is_same_scalar (scalar_at scope n (c + k)) (scalar_at scope m k))
      | inr over ↦ let same : k ≡ i = omega arith in
          stand_step scope n c m k ∙ ap (λ b. b && stand_from scope n c m k) (ap (λ j. is_same_scalar (scalar_at scope n (c + j)) (scalar_at scope m j)) same ∙ here)
    ]
