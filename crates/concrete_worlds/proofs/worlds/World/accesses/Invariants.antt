use Rattle.std.proofs.Common.{◌≡◌}
use Rattle.concrete_worlds.specs.Views.{laid_of, world_of}
use Rattle.concrete_worlds.specs.reading.Access.{accesses_after}
use Rattle.concrete_worlds.proofs.worlds.World.accesses.Given as goal

abbrev pub invariant-loop-task : goal.invariant-loop-task
invariant-loop-task l = l.accesses.items ≡ accesses_after (laid_of l.self) (world_of l.self).answers l.task
