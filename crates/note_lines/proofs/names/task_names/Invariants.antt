use Rattle.std.proofs.Common.{◌≡◌, take, map}
use Rattle.std.specs.Prelude.{slice_get}
use Rattle.tm_typed.specs.declared.files.TypedTask.{TypedTask}
use Rattle.tm_laid.specs.Layouts.{laid_tree}
use Rattle.note_lines.specs.Names.{function_name}
use Rattle.note_lines.proofs.names.task_names.Given as goal

-- the names of the tasks so far
abbrev pub invariant-loop-task : goal.invariant-loop-task
invariant-loop-task l = l.names.items ≡ map (λ (task : TypedTask). function_name
    (slice_get (laid_tree l.laid).file.functions task.function)) (take l.task-index l.task-items)
