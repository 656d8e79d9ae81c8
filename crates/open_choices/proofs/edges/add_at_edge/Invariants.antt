use Rattle.std.proofs.Common.{take}
use Rattle.text_choices.specs.Choices.{Adds}
use Rattle.operand_orders.specs.reading.Views.{solved}
use Rattle.open_choices.specs.reading.Found.{IsOfSome, IsOfCopy}
use Rattle.open_choices.proofs.edges.add_at_edge.Given as goal

abbrev pub invariant-loop-copy : goal.invariant-loop-copy
invariant-loop-copy l = Adds l.initial.choices.items l.choices.items
    (IsOfSome (IsOfCopy (solved l.fn.view) l.edge l.look) (take l.copy-index l.copy-items))
