use Rattle.std.proofs.Common.{◌≡◌, replicate}
use Rattle.concrete_values.specs.Values.{nothing}
use Rattle.graph_positions.proofs.temporaries.no_values.Given as goal

abbrev pub invariant-loop : goal.invariant-loop
invariant-loop l = l.values.items ≡ replicate l.counter nothing
