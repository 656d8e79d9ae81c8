-- The lines of tables.
use Rattle.std.specs.Prelude.{ℕ, List, [], ◌∷◌, Option, Some, None, codes}
use Rattle.std.specs.List.{flat_map, enumerate_from}
use Rattle.transfer_rows.specs.StateForms.{State}
use Rattle.certificate_words.specs.Words.{Line}
use Rattle.certificate_texts.specs.StateLines.{numbered, state_lines}

-- node K and the lines of its state, where it has one
abbrev pub node_lines_of : ℕ → Option State → List Line
node_lines_of node None = []
node_lines_of node (Some state) = numbered (codes "node") node ∷ state_lines state

abbrev pub node_lines : ℕ × Option State → List Line
node_lines e = node_lines_of e.0 e.1

-- task T and the lines of its nodes; the initial section has the number of tasks
abbrev pub table_lines : ℕ × List (Option State) → List Line
table_lines e = numbered (codes "task") e.0 ∷ flat_map node_lines (enumerate_from 0 e.1)
