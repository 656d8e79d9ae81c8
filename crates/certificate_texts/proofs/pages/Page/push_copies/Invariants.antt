use Rattle.std.proofs.Common.{take}
use Rattle.std.specs.List.{flat_map}
use Rattle.certificate_texts.specs.StateLines.{copy_lines}
use Rattle.certificate_texts.specs.reading.Pages.{HasLines}
use Rattle.certificate_texts.proofs.pages.Page.push_copies.Given as goal

-- the lines of the temporaries so far are there
abbrev pub invariant-loop-temp : goal.invariant-loop-temp
invariant-loop-temp l = HasLines l.initial.self l.self (flat_map copy_lines (take l.temp-index l.temp-items))
