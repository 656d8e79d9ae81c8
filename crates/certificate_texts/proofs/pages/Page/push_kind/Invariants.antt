use Rattle.std.proofs.Common.{take}
use Rattle.std.specs.List.{flat_map}
use Rattle.certificate_texts.specs.reading.Pages.{HasLines, entries_of, kind_lines}
use Rattle.certificate_texts.proofs.pages.Page.push_kind.Given as goal

-- the lines of the cells so far are there
abbrev pub invariant-loop-of_cell : goal.invariant-loop-of_cell
invariant-loop-of_cell l =
    HasLines l.initial.self l.self (flat_map (kind_lines l.kind) (take l.of_cell-index (entries_of l.cells)))
