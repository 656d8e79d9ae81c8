use Rattle.std.proofs.Common.{◌≡◌, [], replicate}
use Rattle.graph_facts.specs.Lists.{numbers}
use Rattle.graph_facts.proofs.lists.no_places.Given as goal

abbrev pub invariant-loop : goal.invariant-loop
invariant-loop l = numbers l.lists.items ≡ replicate l.counter []
