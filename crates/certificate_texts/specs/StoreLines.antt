-- The lines of stores.
use Rattle.std.specs.Prelude.{ℕ, pos, List, [], ◌∷◌, ◌++◌, codes}
use Rattle.std.specs.FinMap.{entries}
use Rattle.std.specs.List.{flat_map}
use Rattle.tm_lattice.specs.Tables.{Table}
use Rattle.pointer_dom.specs.Values.{Values}
use Rattle.interfere_set.specs.Stores.{Nested, Interferences}
use Rattle.certificate_words.specs.Words.{number, Line}
use Rattle.certificate_texts.specs.ValueWords.{value_words}
use Rattle.certificate_texts.specs.StateLines.{tagged}

-- the line of an entry: a tag, a task, a set of mutexes or one mutex, a cell, and the value
abbrev pub entry_lines : List ℕ → ℕ → ℕ → ℕ × Values → List Line
entry_lines letters task set e =
    tagged letters (number (pos task) ∷ number (pos set) ∷ number (pos e.0) ∷ value_words e.1) ∷ []

-- those of a task under one set of mutexes or one mutex
abbrev pub set_lines : List ℕ → ℕ → ℕ × Table Values → List Line
set_lines letters task e = flat_map (entry_lines letters task e.0) (entries e.1)

-- those of a task
abbrev pub task_lines : List ℕ → ℕ × Table (Table Values) → List Line
task_lines letters e = flat_map (set_lines letters e.0) (entries e.1)

abbrev pub nested_lines : List ℕ → Nested → List Line
nested_lines letters n = flat_map (task_lines letters) (entries n)

-- store, then w T HELD X VALUE for each weak entry and y T M X VALUE for each sync entry, by rising numbers
abbrev pub store_lines : Interferences → List Line
store_lines store =
    tagged (codes "store") [] ∷ (nested_lines (codes "w") store.weak ++ nested_lines (codes "y") store.sync)
