use Rattle.std.proofs.Common.{◌≡◌, drop}
use Rattle.concrete_worlds.specs.reading.Access.{races_with_some}
use Rattle.concrete_worlds.proofs.accesses.races_with_some.Given as goal

abbrev pub invariant-loop-other : goal.invariant-loop-other
invariant-loop-other l = races_with_some l.task l.access l.other (drop l.other l.accesses) ≡ races_with_some l.task l.access 0 l.accesses
