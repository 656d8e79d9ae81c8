use Rattle.operand_orders.specs.reading.Marks.{IsLast, AreLasts}
use Rattle.operand_orders.proofs.marks.marks_of.Given as goal

abbrev pub invariant-loop-at : goal.invariant-loop-at
invariant-loop-at l = record {
  last : IsLast l.marks.items l.at l.last;
  lasts : AreLasts l.marks.items l.at l.lasts.items;
}
