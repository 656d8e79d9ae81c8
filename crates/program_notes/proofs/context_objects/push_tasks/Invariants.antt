use Rattle.std.proofs.Common.{◌≡◌, ◌++◌}
use Rattle.notes_json.specs.Pieces.{listed}
use Rattle.program_notes.specs.ContextTexts.{task_at, firsts_below}
use Rattle.program_notes.proofs.context_objects.push_tasks.Given as goal

-- what is written so far
abbrev pub invariant-loop-at : goal.invariant-loop-at
invariant-loop-at l = l.text.items ≡ l.fn.text.items ++ listed (task_at l.edges) (firsts_below l.edges l.at)
