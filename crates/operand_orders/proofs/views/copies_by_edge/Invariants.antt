use Rattle.std.proofs.Common.{take}
use Rattle.operand_orders.specs.reading.Views.{AreCopiesBy}
use Rattle.operand_orders.proofs.views.copies_by_edge.Given as goal

abbrev pub invariant-loop-number : goal.invariant-loop-number
invariant-loop-number l = AreCopiesBy (take l.number l.copies) l.count_of_edges l.lists.items
