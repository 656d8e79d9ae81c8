use Rattle.std.proofs.Common.{ℕ, ◌≢◌, pos}
use Rattle.strided_dom.specs.Progression.{Has}
use Rattle.pointer_dom.specs.OffsetSets.{OffsetSet}
use Rattle.open_choices.proofs.Searching.{NoneSo}
use Rattle.open_choices.proofs.members.begins_another.Given as goal

abbrev pub invariant-loop-other : goal.invariant-loop-other
invariant-loop-other l =
    NoneSo (λ (e : ℕ × OffsetSet). (l.object ≢ e.0) × Has e.1.offsets (pos 0)) l.other-items l.other-index
