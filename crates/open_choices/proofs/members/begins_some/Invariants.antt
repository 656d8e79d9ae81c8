use Rattle.std.proofs.Common.{ℕ, pos}
use Rattle.strided_dom.specs.Progression.{Has}
use Rattle.pointer_dom.specs.OffsetSets.{OffsetSet}
use Rattle.open_choices.proofs.Searching.{NoneSo}
use Rattle.open_choices.proofs.members.begins_some.Given as goal

abbrev pub invariant-loop-object : goal.invariant-loop-object
invariant-loop-object l = NoneSo (λ (e : ℕ × OffsetSet). Has e.1.offsets (pos 0)) l.object-items l.object-index
