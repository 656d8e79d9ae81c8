use Rattle.std.proofs.Common.{◌≡◌, ◌++◌}
use Rattle.note_lines.specs.AlarmTexts.{tasks_below}
use Rattle.note_lines.proofs.alarm_lines.push_tasks.Given as goal

-- the tasks of the edges so far
abbrev pub invariant-loop-at : goal.invariant-loop-at
invariant-loop-at l = l.text.items ≡ l.fn.text.items
    ++ tasks_below l.bytes l.names.tasks.items l.names.priorities.items l.edges l.at
