-- Marks of abstract cells.
use Rattle.std.specs.Prelude.{◌≡◌, ℕ, Bool, true, get_or}
use Rattle.tm_laid.specs.Layouts.{LaidTree}
use Rattle.source_names.specs.declared.steps.Inside.{Inside}
use Rattle.part_extents.specs.Parts.{is_constant, is_of_enumeration, inside_of}
use Rattle.open_choices.specs.declared.marks.Marks.{Marks}
use Rattle.open_choices.specs.declared.marks.CellMarks.{CellMarks}

abbrev pub mark_of : Marks → ℕ → Bool
mark_of marks cell = get_or marks.cells.items cell marks.other

abbrev pub IsMarked : Marks → ℕ → Type 0
IsMarked marks cell = mark_of marks cell ≡ true

-- the mark of each cell tells whether its part is such
pub record AreMarks (laid : LaidTree) (is : Inside → Bool) (marks : Marks) : Type 0 where
  pub each : (cell : ℕ) → mark_of marks cell ≡ is (inside_of laid cell)

-- whether the cell is declared `const`
abbrev pub AreConstants : LaidTree → Marks → Type 0
AreConstants laid marks = AreMarks laid (λ inside. is_constant laid inside) marks

-- whether it is of an enumeration
abbrev pub AreEnumerated : LaidTree → Marks → Type 0
AreEnumerated laid marks = AreMarks laid (λ inside. is_of_enumeration laid inside) marks

pub record AreCellMarks (laid : LaidTree) (marks : CellMarks) : Type 0 where
  pub constants : AreConstants laid marks.constants
  pub enumerated : AreEnumerated laid marks.enumerated
