use Rattle.std.proofs.Common.{◌≡◌, replicate, None}
use Rattle.least_assignments.proofs.work_list.no_values.Given as goal

abbrev pub invariant-loop : goal.invariant-loop
invariant-loop g l = l.values.items ≡ replicate l.counter None
