-- What one element more gives, of those that are left.
use Rattle.std.proofs.Common.{◌≡◌, ◌∙◌, ℕ, ◌+◌, ◌<◌, ◌≤◌, List, [], ◌∷◌, ◌++◌, ap, append-nil, append_assoc, drop, get_or, length, sym}
use Rattle.std.specs.List.{flat_map}
use Rattle.std.proofs.lemmas.List.{drop_all, drop_more}

pub part_more : {X A : Type 0} (of : X → List A) (xs : List X) (i : ℕ) (x : X) (old new whole : List A) → i < length xs
    → old ++ flat_map of (drop i xs) ≡ whole → new ≡ old ++ of (get_or xs i x) → new ++ flat_map of (drop (i + 1) xs) ≡ whole
part_more of xs i x old new whole h before pushed =
    ap (λ l. l ++ flat_map of (drop (i + 1) xs)) pushed
    ∙ append_assoc old (of (get_or xs i x)) (flat_map of (drop (i + 1) xs))
    ∙ ap (λ l. old ++ flat_map of l) (sym (drop_more xs i x h)) ∙ before

pub parts_end : {X A : Type 0} (of : X → List A) (xs : List X) (i : ℕ) (done whole : List A) → length xs ≤ i
    → done ++ flat_map of (drop i xs) ≡ whole → done ≡ whole
parts_end of xs i done whole h so_far =
    sym (append-nil done) ∙ ap (λ l. done ++ flat_map of l) (sym (drop_all i xs h)) ∙ so_far
