-- The lines of states.
use Rattle.std.specs.Prelude.{ℕ, pos, Bool, cond, eqb, List, [], ◌∷◌, ◌++◌, Option, Some, None, codes}
use Rattle.std.specs.FinMap.{entries}
use Rattle.std.specs.List.{flat_map}
use Rattle.transfer_rows.specs.StateForms.{Temp, Cell, State}
use Rattle.certificate_words.specs.Words.{Word, tag, number, Line}
use Rattle.certificate_texts.specs.ValueWords.{value_words}

-- the line of a tag and of words behind it
abbrev pub tagged : List ℕ → List Word → Line
tagged letters words = record { first = tag letters; rest = words }

-- the line of a tag and a number
abbrev pub numbered : List ℕ → ℕ → Line
numbered letters n = tagged letters (number (pos n) ∷ [])

-- ## What a state says of one temporary or one cell

-- t I VALUE: the value of a temporary
abbrev pub temp_lines : ℕ × Temp → List Line
temp_lines e = tagged (codes "t") (number (pos e.0) ∷ value_words e.1.value) ∷ []

-- c X VALUE: the own value of a cell
abbrev pub cell_lines : ℕ × Cell → List Line
cell_lines e = tagged (codes "c") (number (pos e.0) ∷ value_words e.1.value) ∷ []

-- the line of a tag and two numbers
abbrev pub paired : List ℕ → ℕ → ℕ → Line
paired letters n m = tagged letters (number (pos n) ∷ number (pos m) ∷ [])

-- p X HELD: the mutexes that are pending at a cell, as the sum of 2^m for each mutex m; where there are some
abbrev pub pending_line_of : ℕ → ℕ → List Line
pending_line_of x pending = cond (eqb pending 0) [] (paired (codes "p") x pending ∷ [])

abbrev pub pending_lines : ℕ × Cell → List Line
pending_lines e = pending_line_of e.0 e.1.pending

-- a tag and the number of a cell, where it is so
abbrev pub marked_lines : List ℕ → Bool → ℕ → List Line
marked_lines letters mark x = cond mark (numbered letters x ∷ []) []

-- f X: a cell is fresh
abbrev pub fresh_lines : ℕ × Cell → List Line
fresh_lines e = marked_lines (codes "f") e.1.fresh e.0

-- s X: a cell was stored since it was cleared
abbrev pub stored_lines : ℕ × Cell → List Line
stored_lines e = marked_lines (codes "s") e.1.stored e.0

-- k I X: a temporary is a copy of a cell
abbrev pub copy_line_of : ℕ → Option ℕ → List Line
copy_line_of t None = []
copy_line_of t (Some x) = paired (codes "k") t x ∷ []

abbrev pub copy_lines : ℕ × Temp → List Line
copy_lines e = copy_line_of e.0 e.1.copy

-- ## States

-- one kind of lines after another, those of one kind by rising numbers
abbrev pub state_lines : State → List Line
state_lines s =
    flat_map temp_lines (entries s.temps) ++ (flat_map cell_lines (entries s.cells) ++ (flat_map pending_lines
    (entries s.cells) ++ (flat_map fresh_lines (entries s.cells) ++ (flat_map stored_lines (entries s.cells) ++
    flat_map copy_lines (entries s.temps)))))
