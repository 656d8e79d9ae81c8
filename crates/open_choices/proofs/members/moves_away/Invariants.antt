use Rattle.std.proofs.Common.{ℕ}
use Rattle.strided_dom.specs.Progression.{Has}
use Rattle.pointer_dom.specs.OffsetSets.{OffsetSet}
use Rattle.operand_orders.specs.reading.Views.{solved}
use Rattle.open_choices.specs.reading.Found.{LeavesIn}
use Rattle.open_choices.proofs.Searching.{NoneSo}
use Rattle.open_choices.proofs.members.moves_away.Given as goal

abbrev pub invariant-loop-object : goal.invariant-loop-object
invariant-loop-object l =
    NoneSo (λ (e : ℕ × OffsetSet). LeavesIn (solved l.view) e.0 l.target e.1.offsets (Has l.steps)) l.object-items
    l.object-index
