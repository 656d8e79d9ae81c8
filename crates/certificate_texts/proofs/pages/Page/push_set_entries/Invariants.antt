use Rattle.std.proofs.Common.{take}
use Rattle.std.specs.List.{flat_map}
use Rattle.certificate_texts.specs.StoreLines.{entry_lines}
use Rattle.certificate_texts.specs.reading.Pages.{HasLines}
use Rattle.certificate_texts.proofs.pages.Page.push_set_entries.Given as goal

-- the lines of the cells so far are there
abbrev pub invariant-loop-cell : goal.invariant-loop-cell
invariant-loop-cell l = HasLines l.initial.self l.self (flat_map (entry_lines l.letters l.task l.set) (take l.cell-index l.cell-items))
