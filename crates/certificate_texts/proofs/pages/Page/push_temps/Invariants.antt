use Rattle.std.proofs.Common.{take}
use Rattle.std.specs.List.{flat_map}
use Rattle.certificate_texts.specs.StateLines.{temp_lines}
use Rattle.certificate_texts.specs.reading.Pages.{HasLines}
use Rattle.certificate_texts.proofs.pages.Page.push_temps.Given as goal

-- the lines of the temporaries so far are there
abbrev pub invariant-loop-temp : goal.invariant-loop-temp
invariant-loop-temp l = HasLines l.initial.self l.self (flat_map temp_lines (take l.temp-index l.temp-items))
