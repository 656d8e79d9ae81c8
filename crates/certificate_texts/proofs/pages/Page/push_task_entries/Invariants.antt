use Rattle.std.proofs.Common.{take}
use Rattle.std.specs.List.{flat_map}
use Rattle.certificate_texts.specs.StoreLines.{set_lines}
use Rattle.certificate_texts.specs.reading.Pages.{HasLines}
use Rattle.certificate_texts.proofs.pages.Page.push_task_entries.Given as goal

-- the lines of the sets so far are there
abbrev pub invariant-loop-set : goal.invariant-loop-set
invariant-loop-set l = HasLines l.initial.self l.self (flat_map (set_lines l.letters l.task) (take l.set-index l.set-items))
