-- What a set holds is among its places.
use Rattle.std.proofs.Common.{◌≡◌, ℕ, Bool, true, false, cond, ◌&&◌, ◌||◌, List, [], ◌∷◌, refl, ap, ap₂, ◌∙◌, sym}
use Rattle.std.proofs.Common.{arith}
use Rattle.std.specs.Prelude.{◌==◌}
use Rattle.std.specs.List.{list_any}
use Rattle.std.proofs.lemmas.Bool.Decides.{nat_tests}
use Rattle.tm_terms.specs.declared.places.Place.{Place}
use Rattle.body_builder.specs.lowering.Table.{is_same_place}
use Rattle.path_origins.specs.Opens.{is_among}

same_number : (m n : ℕ) → (m == n) ≡ (n == m)
same_number m n = grind (arith, nat_tests)

pub same_turned : (p q : Place) → is_same_place p q ≡ is_same_place q p
same_turned p q = ap₂ (λ a b. a && b) (same_number p.line q.line) (same_number p.col q.col)

pub among : (places : List Place) (p : Place) → list_any (is_same_place p) places ≡ is_among places p
among [] p = refl
among (q ∷ places) p = ap₂ (λ a b. a || b) (same_turned p q) (among places p)

pub either_assoc : (a b c : Bool) → ((a || b) || c) ≡ (a || (b || c))
either_assoc true b c = refl
either_assoc false b c = refl

or_own : (own before : Bool) → cond own true before ≡ (before || own)
or_own true true = refl
or_own true false = refl
or_own false true = refl
or_own false false = refl

-- one more is in the set
pub one_among : (q p : Place) (old new : List Place)
    → list_any (is_same_place p) new ≡ cond (is_same_place q p) true (list_any (is_same_place p) old)
    → is_among new p ≡ (is_among old p || is_same_place q p)
one_among q p old new e =
    sym (among new p) ∙ e ∙ ap (λ b. cond (is_same_place q p) true b) (among old p)
    ∙ or_own (is_same_place q p) (is_among old p)
