use Rattle.tm_laid.specs.Layouts.{laid_tree}
use Rattle.concrete_worlds.specs.reading.Starts.{AreStarted}
use Rattle.concrete_worlds.proofs.task_runs.start_runs.Given as goal

abbrev pub invariant-loop-task : goal.invariant-loop-task
invariant-loop-task l = AreStarted (laid_tree l.laid) l.graphs l.task l.runs.items
