use Rattle.std.proofs.Common.{◌≡◌, replicate, None}
use Rattle.least_tables.proofs.leaving_edges.no_edges.Given as goal

abbrev pub invariant-loop : goal.invariant-loop
invariant-loop l = l.last.items ≡ replicate l.counter None
