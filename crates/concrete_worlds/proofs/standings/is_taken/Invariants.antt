use Rattle.std.proofs.Common.{◌≡◌, drop, map}
use Rattle.concrete_steps.specs.Worlds.{is_taken}
use Rattle.concrete_worlds.specs.Views.{standing_of}
use Rattle.concrete_worlds.proofs.standings.is_taken.Given as goal

abbrev pub invariant-loop-standing : goal.invariant-loop-standing
invariant-loop-standing l =
    is_taken l.mutex (map (standing_of l.mutexes) (drop l.standing-index l.standings)) ≡ is_taken l.mutex (map (standing_of l.mutexes) l.standings)
