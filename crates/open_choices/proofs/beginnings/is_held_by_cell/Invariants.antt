use Rattle.std.proofs.Common.{◌-◌, ◌^◌}
use Rattle.operand_orders.specs.reading.Views.{solved}
use Rattle.open_choices.proofs.Leftover.{NoneLeft}
use Rattle.open_choices.proofs.beginnings.is_held_by_cell.Given as goal

abbrev pub invariant-cells : goal.invariant-cells
invariant-cells l = NoneLeft (solved l.view) l.life l.state l.from

abbrev pub decreases-cells : goal.decreases-cells
decreases-cells l = 2 ^ 32 - l.from
