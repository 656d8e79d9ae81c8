-- The words of a text, with a blank between two of them.
use Rattle.std.specs.Prelude.{ℕ, Bool, not, cond, ◌==◌, List, [], ◌∷◌}

abbrev pub is_no_blank : ℕ → Bool
is_no_blank c = not (c == 32)

-- a byte before the first of some words
abbrev pub onto : ℕ → List (List ℕ) → List (List ℕ)
onto c [] = (c ∷ []) ∷ []
onto c (w ∷ ws) = (c ∷ w) ∷ ws

unfoldable pub words_of : List ℕ → List (List ℕ)
words_of [] = []
words_of (c ∷ cs) = cond (c == 32) ([] ∷ words_of cs) (onto c (words_of cs))
