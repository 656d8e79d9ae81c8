use Rattle.std.proofs.Common.{◌≡◌, ◌++◌, drop}
use Rattle.concrete_worlds.specs.reading.Access.{races_from}
use Rattle.concrete_worlds.proofs.races.places_of.Given as goal

abbrev pub invariant-loop-task : goal.invariant-loop-task
invariant-loop-task l = l.places.items ++ races_from l.accesses l.task (drop l.task l.accesses) ≡ races_from l.accesses 0 l.accesses
