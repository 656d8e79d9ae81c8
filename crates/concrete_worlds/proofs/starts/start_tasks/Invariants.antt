use Rattle.std.proofs.Common.{◌≡◌, ◌++◌, map, drop, length}
use Rattle.tm_laid.specs.Layouts.{laid_tree}
use Rattle.concrete_steps.specs.Worlds.{start_tasks}
use Rattle.concrete_worlds.specs.Views.{standing_of}
use Rattle.concrete_worlds.proofs.starts.start_tasks.Given as goal

abbrev pub invariant-loop-task : goal.invariant-loop-task
invariant-loop-task l =
    map (standing_of (length l.laid.file.mutexes.items)) l.standings.items ++ start_tasks (laid_tree l.laid) l.task (drop l.task l.laid.file.tasks.items)
    ≡ start_tasks (laid_tree l.laid) 0 l.laid.file.tasks.items
