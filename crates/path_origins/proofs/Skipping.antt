-- Edges on which control goes on, and lives that go on up to an end, one after another.
use Rattle.std.proofs.Common.{◌≡◌, ℕ, suc, ◌+◌, ◌-◌, ◌<◌, ◌≤◌, List, [], ◌∷◌, ◌++◌, length, map, drop, get_or, ap, sym}
use Rattle.std.proofs.Common.{◌∙◌, arith}
use Rattle.std.proofs.lemmas.List.{append_assoc, drop_more}
use Rattle.tm_terms.specs.declared.places.Place.{Place}
use Rattle.path_origins.specs.declared.origins.Form.TheVariants as Forms
use Rattle.path_origins.specs.declared.origins.Life.{Life}
use Rattle.path_origins.specs.Noted.{Noted, behind, ending, one, skips}
use Rattle.path_origins.proofs.Laws.{behind_behind, behind_nothing}

pub one_skipped : (p : Place) (n i : ℕ) (a b all : Noted) → i < n → b ≡ behind a (one p Forms.Skip)
    → behind a (skips p (n - i)) ≡ all → behind b (skips p (n - (i + 1))) ≡ all
one_skipped p n i a b all below e f =
    let left : n - i ≡ suc (n - (i + 1)) = omega arith in
    ap (λ z. behind z (skips p (n - (i + 1)))) e
    ∙ behind_behind a (one p Forms.Skip) (skips p (n - (i + 1)))
    ∙ ap (λ k. behind a (skips p k)) (sym left) ∙ f

pub all_skipped : (p : Place) (n i : ℕ) (a all : Noted) → n ≤ i → behind a (skips p (n - i)) ≡ all → a ≡ all
all_skipped p n i a all past e =
    let none : n - i ≡ 0 = omega arith in
    sym (behind_nothing a) ∙ ap (λ k. behind a (skips p k)) (sym none) ∙ e

-- one more life goes on up to an end
pub ended_more : (n : ℕ) (xs : List Life) (i : ℕ) (none : Life) (old new all : List Life) → i < length xs
    → new ≡ old ++ ending n (get_or xs i none) ∷ [] → old ++ map (ending n) (drop i xs) ≡ all
    → new ++ map (ending n) (drop (i + 1) xs) ≡ all
ended_more n xs i none old new all lt pushed h =
    ap (λ l. l ++ map (ending n) (drop (i + 1) xs)) pushed
    ∙ append_assoc old (ending n (get_or xs i none) ∷ []) (map (ending n) (drop (i + 1) xs))
    ∙ ap (λ l. old ++ map (ending n) l) (sym (drop_more xs i none lt)) ∙ h
