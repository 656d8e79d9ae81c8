-- One more is noted.
use Rattle.std.proofs.Common.{◌≡◌, ℕ, ◌+◌, ◌<◌, List, [], ◌∷◌, ◌++◌, map, take, length, get_or, ap, sym, ◌∙◌}
use Rattle.std.proofs.lemmas.List.{map_push, map_more}

pub one_noted : {X Y Z : Type 0} (f : X → Z) (g : Y → Z) (xs : List X) (i : ℕ) (d : X) (olds news : List Y) (y : Y)
    → i < length xs → news ≡ olds ++ y ∷ [] → map g olds ≡ map f (take i xs) → g y ≡ f (get_or xs i d)
    → map g news ≡ map f (take (i + 1) xs)
one_noted f g xs i d olds news y below pushed before same =
    ap (map g) pushed ∙ map_push g olds y ∙ ap (λ zs. zs ++ g y ∷ []) before
    ∙ ap (λ z. map f (take i xs) ++ z ∷ []) same ∙ sym (map_more f xs i d below)
