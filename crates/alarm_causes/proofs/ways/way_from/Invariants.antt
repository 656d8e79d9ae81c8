use Rattle.std.proofs.Common.{◌≤◌, length}
use Rattle.alarm_causes.proofs.ways.way_from.Given as goal

abbrev pub invariant-loop : goal.invariant-loop
invariant-loop l = length l.trace.items ≤ l.counter
