-- The first type of a list that has a value.
use Rattle.std.proofs.Common.{◌≡◌, ap, ◌∙◌, ◌-◌, ◌≤◌, Bool, false, List, [], ◌∷◌, length, get_or, take, drop, Option, arith}
use Rattle.std.specs.Prelude.{find}
use Rattle.std.proofs.lemmas.List.{take_all}

pub find_rest : {X : Type 0} (p : X → Bool) (xs : List X) (d : X) (r : Option X) → p (get_or xs 0 d) ≡ false → 1 ≤ length xs → r ≡ find p (take (length xs - 1) (drop 1 xs)) → r ≡ find p xs
find_rest p [] d r h below e = absurd (omega (arith, below))
find_rest p (x ∷ xs) d r h below e = rw h (e ∙ ap (find p) (take_all (length (x ∷ xs) - 1) xs (omega arith)))
