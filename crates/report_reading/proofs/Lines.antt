-- One line more of a text.
use Rattle.std.proofs.Common.{◌≡◌, ◌∙◌, ℕ, ◌+◌, ◌<◌, List, [], ◌++◌, ap, get_or, length, sym, take}
use Rattle.std.specs.List.{flat_map}
use Rattle.std.proofs.lemmas.List.{flat_map_more, take_more}

pub line_more : {X A : Type 0} (line : X → List A) (xs : List X) (i : ℕ) (x : X) (old new : List A) → i < length xs
    → old ≡ flat_map line (take i xs) → new ≡ old ++ line (get_or xs i x) → new ≡ flat_map line (take (i + 1) xs)
line_more line xs i x old new h before pushed =
    pushed ∙ ap (λ text. text ++ line (get_or xs i x)) before
    ∙ flat_map_more line [] (take i xs) (get_or xs i x)
    ∙ ap (flat_map line) (sym (take_more xs i x h))
