use Rattle.std.proofs.Common.{◌≡◌, ◌++◌, take, drop, map}
use Rattle.concrete_worlds.specs.reading.Standings.{awake}
use Rattle.concrete_worlds.proofs.standings.wake_each.Given as goal

abbrev pub invariant-loop-standing : goal.invariant-loop-standing
invariant-loop-standing l = l.standings ≡ map (awake l.mutex) (take l.standing-index l.initial.standings) ++ drop l.standing-index l.initial.standings
