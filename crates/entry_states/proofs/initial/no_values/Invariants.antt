use Rattle.std.proofs.Common.{◌≡◌, replicate}
use Rattle.pointer_dom.specs.Values.{no_value}
use Rattle.entry_states.proofs.initial.no_values.Given as goal

abbrev pub invariant-loop : goal.invariant-loop
invariant-loop l = l.values.items ≡ replicate l.counter no_value
