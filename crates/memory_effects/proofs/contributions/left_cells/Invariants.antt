use Rattle.std.proofs.Common.{◌-◌, ◌^◌}
use Rattle.tm_laid.specs.Layouts.{laid_tree}
use Rattle.edge_actions.specs.Layouts.{is_shared_cell}
use Rattle.memory_effects.proofs.Contributing.{IsLeftBelow}
use Rattle.memory_effects.proofs.contributions.left_cells.Given as goal

abbrev pub invariant-loop-left : goal.invariant-loop-left
invariant-loop-left l = IsLeftBelow (is_shared_cell (laid_tree l.view.laid.now)) l.mutex l.cells l.from l.left

abbrev pub decreases-loop-left : goal.decreases-loop-left
decreases-loop-left l = 2 ^ 32 - l.from
