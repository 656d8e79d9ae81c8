use Rattle.std.proofs.Common.{◌≡◌, ◌++◌}
use Rattle.tm_laid.specs.Layouts.{laid_tree}
use Rattle.edge_actions.specs.reading.Spans.{cells_led}
use Rattle.edge_actions.proofs.targets.with_targets.Given as goal

abbrev pub invariant-loop-offset : goal.invariant-loop-offset
invariant-loop-offset l = l.targets.items ≡ l.fn.before.items ++ cells_led (laid_tree l.laid) l.scalar l.object l.offsets.offsets l.offset
