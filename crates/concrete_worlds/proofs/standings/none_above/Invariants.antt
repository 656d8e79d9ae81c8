use Rattle.std.proofs.Common.{◌≡◌, drop}
use Rattle.concrete_worlds.specs.reading.Standings.{none_ready_above}
use Rattle.concrete_worlds.proofs.standings.none_above.Given as goal

abbrev pub invariant-loop-standing : goal.invariant-loop-standing
invariant-loop-standing l = none_ready_above l.priority (drop l.standing-index l.standings) ≡ none_ready_above l.priority l.standings
