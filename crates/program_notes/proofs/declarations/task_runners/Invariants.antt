use Rattle.std.proofs.Common.{◌≡◌, take, map}
use Rattle.tm_laid.specs.Layouts.{laid_tree}
use Rattle.program_notes.specs.Declarations.{task_runner}
use Rattle.program_notes.proofs.declarations.task_runners.Given as goal

-- the tasks so far
abbrev pub invariant-loop-task : goal.invariant-loop-task
invariant-loop-task l = l.runners.items ≡ map (task_runner (laid_tree l.laid)) (take l.task-index l.task-items)
