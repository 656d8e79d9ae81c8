-- The line of one class more, or of one rule.
use Rattle.std.proofs.Common.{◌≡◌, ◌<◌, ◌+◌, ◌∙◌, ℕ, List, [], ◌∷◌, ◌++◌, length, get_or, take, sym, ap, append-nil}
use Rattle.std.specs.List.{flat_map}
use Rattle.std.proofs.lemmas.List.{take_more}
use Rattle.std.proofs.lemmas.Grind.{flat_map-append}

pub line_more : {A : Type 0} (f : A → List ℕ) (all : List A) (i : ℕ) (class : A) (old new : List ℕ) → i < length all
    → old ≡ flat_map f (take i all) → new ≡ old ++ f (get_or all i class) → new ≡ flat_map f (take (i + 1) all)
line_more {A} f all i class old new below so_far pushed =
    pushed ∙ ap (λ t. t ++ f (get_or all i class)) so_far
    ∙ ap (λ t. flat_map f (take i all) ++ t) (sym (append-nil (f (get_or all i class))))
    ∙ sym (flat_map-append f (take i all) (get_or all i class ∷ []))
    ∙ ap (flat_map f) (sym (take_more all i class below))
