use Rattle.std.proofs.Common.{ℕ, pos}
use Rattle.strided_dom.specs.Progression.{Has}
use Rattle.pointer_dom.specs.OffsetSets.{OffsetSet}
use Rattle.open_choices.specs.reading.Found.{HasOtherBegin}
use Rattle.open_choices.proofs.Searching.{NoneSo}
use Rattle.open_choices.proofs.members.meets.Given as goal

abbrev pub invariant-loop-object : goal.invariant-loop-object
invariant-loop-object l =
    NoneSo (λ (e : ℕ × OffsetSet). Has e.1.offsets (pos e.1.size) × HasOtherBegin l.other e.0) l.object-items
    l.object-index
