use Rattle.std.proofs.Common.{◌≡◌, replicate, None}
use Rattle.table_covers.proofs.tables.no_states.Given as goal

abbrev pub invariant-loop : goal.invariant-loop
invariant-loop g l = l.table.items ≡ replicate l.counter None
