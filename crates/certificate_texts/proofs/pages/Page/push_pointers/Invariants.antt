use Rattle.std.proofs.Common.{take}
use Rattle.std.specs.List.{flat_map}
use Rattle.certificate_texts.specs.ValueWords.{object_words}
use Rattle.certificate_texts.specs.reading.Pages.{HasWords}
use Rattle.certificate_texts.proofs.pages.Page.push_pointers.Given as goal

-- the words of the objects so far are there
abbrev pub invariant-loop-object : goal.invariant-loop-object
invariant-loop-object l = HasWords l.initial.self l.self (flat_map object_words (take l.object-index l.object-items))
