-- The lines of the text, each by the line of the file that it comes from.
use Rattle.std.specs.Prelude.{ℕ, ◌+◌, ◌==◌, List, [], ◌∷◌, ◌++◌, decimal, drop, slice_index, if◌then◌else◌}
use Rattle.source_marks.specs.Marks.{Origin}
use Rattle.page_pieces.specs.Composed.{composed}
use Rattle.page_pieces.specs.Pieces.{Piece, fixed, said}
use Rattle.page_pieces.specs.declared.markup.Markup.{Markup}
use Rattle.page_pieces.specs.declared.markup.Markup.TheVariants.{Line, Noted, Opened, Unreached, Number, Code}
use Rattle.page_pieces.specs.declared.markup.Markup.TheVariants.{LineEnd, Hidden, HiddenEnd}
use Rattle.report_pages.specs.Rows.{first_of, rest_of}

-- how a line begins whose remarks are these: marked where the first of them says that no run reaches a place, byte 16,
-- is a note, byte 30, or one on a place whose meaning C leaves open, byte 13
abbrev pub line_start : List ℕ → Markup
line_start remark =
    if slice_index remark 0 == 16 then Unreached
    else (if slice_index remark 0 == 30 then Noted
    else (if slice_index remark 0 == 13 then Opened else Line))

-- a line of the text whose line of the file is shown behind `+`, byte 43, or that is not shown, as a line mark is not;
-- either is there to be led to
abbrev pub line_pieces : Markup → ℕ → ℕ → List ℕ → List Piece
line_pieces start number line shown =
    if slice_index shown 0 == 43
    then fixed start ∷ said (decimal number) ∷ fixed Number ∷ said (decimal line) ∷ fixed Code ∷ said (drop 1 shown)
    ∷ fixed LineEnd ∷ []
    else fixed Hidden ∷ said (decimal number) ∷ fixed HiddenEnd ∷ []

-- the lines of the text from one with this number on, with the remarks behind each
abbrev pub line_rows : ℕ → List Origin → List (List ℕ) → List (List ℕ) → List Piece
line_rows number [] lines remarks = []
line_rows number (origin ∷ origins) lines remarks =
    (line_pieces (line_start (first_of remarks)) number origin.line (first_of lines) ++ composed (first_of remarks))
    ++ line_rows (number + 1) origins (rest_of lines) (rest_of remarks)
