-- By what results of two logs match: a fingerprint, and how many results with the same one stand before. So of equal
-- fingerprints the first of a log matches the first of the other, the second the second, and so on.
use Rattle.std.specs.Prelude.{ℕ, Bool, List, [], ◌∷◌, ◌++◌, bytes_eq, count_by, decimal}
use Rattle.std.specs.List.{list_any}

-- a fingerprint, a space, and how many equal ones stand before
abbrev pub key_of : List ℕ → ℕ → List ℕ
key_of print number = print ++ 32 ∷ decimal number

-- the keys of fingerprints, where these ones stand before
abbrev pub keys_behind : List (List ℕ) → List (List ℕ) → List (List ℕ)
keys_behind before [] = []
keys_behind before (print ∷ prints) =
    key_of print (count_by (bytes_eq print) before) ∷ keys_behind (before ++ print ∷ []) prints

-- the keys of the results of a log, by their fingerprints
abbrev pub keys_of : List (List ℕ) → List (List ℕ)
keys_of prints = keys_behind [] prints

-- one of the keys is this one
abbrev pub has_key : List (List ℕ) → List ℕ → Bool
has_key keys key = list_any (bytes_eq key) keys
