-- A list that is walked to its end.
use Rattle.std.proofs.Common.{◌≡◌, ◌<◌, refl, arith, List, [], ◌∷◌, length}

pub no_more : {X : Type 0} (xs : List X) → length xs < 1 → xs ≡ []
no_more [] h = refl
no_more (x ∷ xs) h = absurd (omega arith)
