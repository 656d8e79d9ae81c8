-- Parameters of different numbers.
use Rattle.std.proofs.Common.{◌≡◌, ℕ, List, [], ◌∷◌, length, refl, ap, ◌∙◌}
use Rattle.std.specs.Prelude.{Bool, true, false, ◌&&◌, suc}
use Rattle.tm_typed.specs.Scopes.{Scope, is_same_type}
use Rattle.tm_typed.specs.Functions.{are_same_types}

never_both : (b : Bool) → (b && false) ≡ false
never_both true = refl
never_both false = refl

pub other_number : (scope : Scope) (ms ns : List ℕ) → (length ms ≡ length ns → ⊥) → are_same_types scope ms ns ≡ false
other_number scope [] [] differ = absurd (differ refl)
other_number scope [] (n ∷ ns) differ = refl
other_number scope (m ∷ ms) [] differ = refl
other_number scope (m ∷ ms) (n ∷ ns) differ =
    ap (λ b. is_same_type scope m n && b) (other_number scope ms ns (λ e. differ (ap suc e))) ∙ never_both (is_same_type scope m n)
