-- The text that lists assumptions: the places whose meaning in a compiled program depends on a choice of the compiler.
use Rattle.std.specs.Prelude.{◌≡◌, ◌<◌, ◌^◌, ℕ, List, [], ◌∷◌, ◌++◌, length, codes, decimal}
use Rattle.std.specs.List.{flat_map}
use Rattle.tm_terms.specs.Texts.{line_of, place_text}
use Rattle.report_reading.specs.declared.assumptions.Assumption.{Assumption}
use Rattle.report_reading.specs.declared.assumptions.AssumptionKind.{AssumptionKind}
use Rattle.report_reading.specs.declared.assumptions.AssumptionKind.TheVariants as Kinds
use Rattle.report_reading.specs.Listings.{HasSmallNumbers}

-- the word of a kind
abbrev pub kind_text : AssumptionKind → List ℕ
kind_text Kinds.Const = codes "CONST"
kind_text Kinds.Enum = codes "ENUM"
kind_text Kinds.Implementation = codes "IMPLEMENTATION"
kind_text Kinds.Layout = codes "LAYOUT"
kind_text Kinds.Lifetime = codes "LIFETIME"
kind_text Kinds.Member = codes "MEMBER"
kind_text Kinds.Order = codes "ORDER"
kind_text Kinds.Pragma = codes "PRAGMA"
kind_text Kinds.Reserved = codes "RESERVED"
kind_text Kinds.Restrict = codes "RESTRICT"
kind_text Kinds.Unset = codes "UNSET"

-- LINE:COL KIND
abbrev pub assumption_line : Assumption → List ℕ
assumption_line a = line_of (place_text a.place ++ (codes " " ++ kind_text a.kind))

-- assumptions N
abbrev pub number_line : ℕ → List ℕ
number_line count = line_of (codes "assumptions " ++ decimal count)

-- a line for each, and then their number
abbrev pub assumptions_text : List Assumption → List ℕ
assumptions_text list = flat_map assumption_line list ++ number_line (length list)

-- each has a place with numbers of 32 bits, as those of the analyser have
abbrev pub HavePlacesInRange : List Assumption → Type 0
HavePlacesInRange [] = Unit {0}
HavePlacesInRange (a ∷ list) = HasSmallNumbers a.place × HavePlacesInRange list

-- the text lists no assumptions
abbrev pub IsNoAssumptions : List ℕ → Type 0
IsNoAssumptions text =
    (list : List Assumption) → HavePlacesInRange list → length list < 2 ^ 64 → text ≡ assumptions_text list → ⊥
