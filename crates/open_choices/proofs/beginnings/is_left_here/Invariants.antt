use Rattle.operand_orders.specs.reading.Views.{solved}
use Rattle.open_choices.specs.reading.Left.{IsHeldBehind}
use Rattle.open_choices.proofs.Searching.{NoneSo}
use Rattle.open_choices.proofs.beginnings.is_left_here.Given as goal

abbrev pub invariant-loop-copy : goal.invariant-loop-copy
invariant-loop-copy l = NoneSo (IsHeldBehind (solved l.fn.view) l.life l.own) l.copy-items l.copy-index
