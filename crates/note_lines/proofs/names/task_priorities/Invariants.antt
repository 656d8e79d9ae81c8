use Rattle.std.proofs.Common.{◌≡◌, take, map}
use Rattle.tm_typed.specs.declared.files.TypedTask.{TypedTask}
use Rattle.note_lines.proofs.names.task_priorities.Given as goal

-- the priorities of the tasks so far
abbrev pub invariant-loop-task : goal.invariant-loop-task
invariant-loop-task l = l.priorities.items ≡ map (λ (task : TypedTask). task.priority) (take l.task-index l.task-items)
