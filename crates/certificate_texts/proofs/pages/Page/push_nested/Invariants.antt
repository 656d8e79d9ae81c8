use Rattle.std.proofs.Common.{take}
use Rattle.std.specs.List.{flat_map}
use Rattle.certificate_texts.specs.StoreLines.{task_lines}
use Rattle.certificate_texts.specs.reading.Pages.{HasLines}
use Rattle.certificate_texts.proofs.pages.Page.push_nested.Given as goal

-- the lines of the tasks so far are there
abbrev pub invariant-loop-task : goal.invariant-loop-task
invariant-loop-task l = HasLines l.initial.self l.self (flat_map (task_lines l.letters) (take l.task-index l.task-items))
