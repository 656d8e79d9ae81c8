-- The lines of cells.
use Rattle.std.specs.Prelude.{List, ◌++◌}
use Rattle.std.specs.FinMap.{entries}
use Rattle.std.specs.List.{flat_map}
use Rattle.tm_lattice.specs.Tables.{Table}
use Rattle.transfer_rows.specs.StateForms.{Cell}
use Rattle.certificate_words.specs.Words.{Line}
use Rattle.certificate_texts.specs.StateLines.{cell_lines, pending_lines, fresh_lines, stored_lines}

-- one kind of lines after another
abbrev pub cells_lines : Table Cell → List Line
cells_lines cells =
    flat_map cell_lines (entries cells) ++ (flat_map pending_lines (entries cells) ++ (flat_map fresh_lines
    (entries cells) ++ flat_map stored_lines (entries cells)))
