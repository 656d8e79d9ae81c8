use Rattle.std.proofs.Common.{◌≡◌, replicate, None}
use Rattle.body_slots.proofs.rows.nothing.Given as goal

abbrev pub invariant-loop : goal.invariant-loop
invariant-loop l = l.all.items ≡ replicate l.counter None
