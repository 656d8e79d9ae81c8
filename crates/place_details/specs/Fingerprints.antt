-- The fingerprint of a place: the beginning of the SHA-256 (FIPS 180-4) of what stays the same when other lines move.
use Rattle.std.specs.Prelude.{ℕ, ◌==◌, ◌||◌, Bool, not, List, [], ◌∷◌, ◌++◌, length, take, drop, filter, count_by, codes}
use Rattle.std.specs.Prelude.{decimal, bytes_eq, Option, Some, None, unwrap_or, if◌then◌else◌}
use Rattle.sha2.specs.Sha256.{sha256}
use Rattle.hex.specs.Hex.{encode_lower}

-- what stands behind a folder and a slash in a name
abbrev pub within : List ℕ → List ℕ → Option (List ℕ)
within folder name =
    if not (bytes_eq (take (length folder) name) folder) then None
    else (if bytes_eq (codes "/") (take 1 (drop (length folder) name)) then Some (drop 1 (drop (length folder) name))
    else None)

-- a name of a file as seen where the working folder is not above it
abbrev pub undotted : List ℕ → List ℕ
undotted name = if bytes_eq (codes "./") (take 2 name) then drop 2 name else name

-- a name of a file as seen from a folder
abbrev pub relative : List ℕ → List ℕ → List ℕ
relative folder name = unwrap_or (within folder name) (undotted name)

-- a byte that counts: no space, tab or byte 13
abbrev pub is_solid : ℕ → Bool
is_solid b = not (b == 32 || (b == 9 || b == 13))

-- how many bytes of a line count
abbrev pub longest_part : ℕ
longest_part = 1024

-- what counts of a line
abbrev pub solid_part : List ℕ → List ℕ
solid_part line = filter is_solid (take longest_part line)

-- a part, and the byte 0 behind it
abbrev pub part : List ℕ → List ℕ
part text = text ++ 0 ∷ []

-- the word of a rule, the file, the function and the line
abbrev pub front_of : List ℕ → List ℕ → List ℕ → List ℕ → List ℕ
front_of word file function line = part word ++ (part file ++ (part function ++ part (solid_part line)))

-- the first 32 hexadecimal digits of the SHA-256 of a front and the number of equal ones before it
abbrev pub fingerprint : List ℕ → ℕ → List ℕ
fingerprint front number = encode_lower (take 16 (sha256 (front ++ decimal number)))

-- the fingerprints of fronts, where these ones stand before
abbrev pub fingerprints_behind : List (List ℕ) → List (List ℕ) → List (List ℕ)
fingerprints_behind before [] = []
fingerprints_behind before (front ∷ fronts) =
    fingerprint front (count_by (bytes_eq front) before) ∷ fingerprints_behind (before ++ front ∷ []) fronts

abbrev pub fingerprints_of : List (List ℕ) → List (List ℕ)
fingerprints_of fronts = fingerprints_behind [] fronts
