use Rattle.strided_dom.specs.Progression.{Has}
use Rattle.operand_orders.specs.reading.Views.{solved}
use Rattle.open_choices.proofs.Numbers.{NoneLeaves}
use Rattle.open_choices.proofs.members.leaves_within.Given as goal

abbrev pub invariant-loop-offset : goal.invariant-loop-offset
invariant-loop-offset l = NoneLeaves l.offsets (solved l.view) l.object l.target (Has l.steps) l.offset
