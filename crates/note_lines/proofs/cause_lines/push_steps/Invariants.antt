use Rattle.std.proofs.Common.{◌≡◌, ◌++◌, take}
use Rattle.std.specs.List.{flat_map}
use Rattle.note_lines.specs.CauseTexts.{step_text}
use Rattle.note_lines.proofs.cause_lines.push_steps.Given as goal

-- the lines of the steps so far
abbrev pub invariant-loop-step : goal.invariant-loop-step
invariant-loop-step l = l.text.items ≡ l.fn.text.items
    ++ flat_map (step_text l.bytes l.names.objects.items l.names.tasks.items) (take l.step-index l.steps)
