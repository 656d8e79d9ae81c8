use Rattle.std.proofs.Common.{◌≡◌, replicate, None}
use Rattle.cell_placings.proofs.placings.no_times.Given as goal

abbrev pub invariant-loop : goal.invariant-loop
invariant-loop l = l.times.items ≡ replicate l.counter None
