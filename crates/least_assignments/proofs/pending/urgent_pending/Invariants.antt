use Rattle.std.proofs.Common.{length}
use Rattle.least_assignments.proofs.pending.urgent_pending.Given as goal

abbrev pub decreases-loop-constraint : goal.decreases-loop-constraint
decreases-loop-constraint l = length l.order.urgent.items
