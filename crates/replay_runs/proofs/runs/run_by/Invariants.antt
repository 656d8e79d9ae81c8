use Rattle.std.proofs.Common.{◌≡◌, ◌≤◌, drop, length}
use Rattle.tm_laid.specs.Layouts.{laid_tree}
use Rattle.concrete_worlds.specs.Running.{IsWorld}
use Rattle.concrete_worlds.specs.Views.{world_of}
use Rattle.replay_runs.specs.reading.Turns.{IsSoFar}
use Rattle.replay_runs.proofs.runs.run_by.Given as goal

abbrev pub invariant-loop-done : goal.invariant-loop-done
invariant-loop-done l =
    (l.world.laid.now ≡ l.laid) × (l.done ≤ length l.choices)
    × IsSoFar (laid_tree l.laid) l.choices l.places.items l.done (world_of l.world) (drop l.done l.choices) × IsWorld l.world
