-- What the code finds of the assumptions that a text lists before it compares.
use Rattle.std.specs.Prelude.{◌≡◌, ℕ, List, [], ◌∷◌, ◌++◌, length, codes, decimal, Option, Some, None}
use Rattle.std.specs.Prelude.{MatchOption, bytes_eq, if◌then◌else◌}
use Rattle.std.specs.Borrow.{Bor}
use Rattle.tm_terms.specs.Texts.{place_text}
use Rattle.report_reading.specs.declared.assumptions.Assumption.{Assumption}
use Rattle.report_reading.specs.declared.assumptions.AssumptionKind.{AssumptionKind}
use Rattle.report_reading.specs.declared.assumptions.AssumptionKind.TheVariants as Kinds
use Rattle.report_reading.specs.Assumptions.{HavePlacesInRange, kind_text}

abbrev pub kind_of : List ℕ → Option AssumptionKind
kind_of word =
    if bytes_eq word (codes "CONST") then Some Kinds.Const
    else (if bytes_eq word (codes "ENUM") then Some Kinds.Enum
    else (if bytes_eq word (codes "IMPLEMENTATION") then Some Kinds.Implementation
    else (if bytes_eq word (codes "LAYOUT") then Some Kinds.Layout
    else (if bytes_eq word (codes "LIFETIME") then Some Kinds.Lifetime
    else (if bytes_eq word (codes "MEMBER") then Some Kinds.Member
    else (if bytes_eq word (codes "ORDER") then Some Kinds.Order
    else (if bytes_eq word (codes "PRAGMA") then Some Kinds.Pragma
    else (if bytes_eq word (codes "RESERVED") then Some Kinds.Reserved
    else (if bytes_eq word (codes "RESTRICT") then Some Kinds.Restrict
    else (if bytes_eq word (codes "UNSET") then Some Kinds.Unset
    else None))))))))))

-- an assumption in its line, and what follows
abbrev pub taken_before : Assumption → List ℕ → List ℕ
taken_before a rest = place_text a.place ++ (32 ∷ (kind_text a.kind ++ (10 ∷ rest)))

-- the line with the number of assumptions
abbrev pub number_line_of : ℕ → List ℕ
number_line_of count = codes "assumptions" ++ (32 ∷ (decimal count ++ (10 ∷ [])))

-- the lines of assumptions, and then that of a number
abbrev pub lines_before : List Assumption → ℕ → List ℕ
lines_before [] count = number_line_of count
lines_before (a ∷ list) count = taken_before a (lines_before list count)

-- this assumption was found, and this is left
abbrev pub IsTaken : Option (Assumption × Bor (List ℕ)) → Assumption → List ℕ → Type 0
IsTaken found a rest = MatchOption found ⊥ (λ r. (r.0 ≡ a) × (r.1.now ≡ rest))

-- of these assumptions, those that were found come first, and the lines of the others are left
pub record AreUnread (list found : List Assumption) (left : List ℕ) : Type 0 where
  pub more : List Assumption
  pub are : list ≡ found ++ more
  pub small : HavePlacesInRange more
  pub lines : left ≡ lines_before more (length list)
