use Rattle.std.proofs.Common.{◌≡◌, replicate, true}
use Rattle.least_assignments.proofs.pending.all_pending.Given as goal

abbrev pub invariant-loop : goal.invariant-loop
invariant-loop l = l.pending.items ≡ replicate l.counter true
