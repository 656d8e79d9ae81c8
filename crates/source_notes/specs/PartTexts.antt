-- Texts behind one another, each of which can be cut out again.
use Rattle.std.specs.Prelude.{ℕ, List, ◌++◌, length, codes, decimal}
use Rattle.tm_terms.specs.Texts.{line_of}
use Rattle.program_streams.specs.declared.statuses.Status.{Status}
use Rattle.program_streams.specs.Statuses.{status_number}

-- a text with its status, of which something is told
pub record Part (Told : Status → List ℕ → Type 0) : Type 0 where
  pub status : Status
  pub text : List ℕ
  pub told : Told status text

-- NAME STATUS LENGTH
abbrev pub part_head : List ℕ → Status → ℕ → List ℕ
part_head name status count = line_of (name ++ (codes " " ++ (decimal (status_number status)
    ++ (codes " " ++ decimal count))))

-- the text behind such a line
abbrev pub part_text : List ℕ → Status → List ℕ → List ℕ
part_text name status text = part_head name status (length text) ++ text

abbrev pub shown : {Told : Status → List ℕ → Type 0} → List ℕ → Part Told → List ℕ
shown name p = part_text name p.status p.text
