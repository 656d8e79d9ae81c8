use Rattle.std.proofs.Common.{◌≡◌, take, map}
use Rattle.tm_typed.specs.declared.files.TypedTask.{TypedTask}
use Rattle.program_systems.proofs.facts.priorities_of.Given as goal

abbrev pub invariant-loop-task : goal.invariant-loop-task
invariant-loop-task l = l.priorities.items ≡ map (λ (t : TypedTask). t.priority) (take l.task-index l.tasks)
