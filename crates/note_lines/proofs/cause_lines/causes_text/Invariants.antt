use Rattle.std.proofs.Common.{◌≡◌}
use Rattle.post_recheck.specs.program_systems.ProgramFacts.{program_with}
use Rattle.program_notes.specs.Operations.{operation_of}
use Rattle.note_lines.specs.CauseTexts.{advices_below}
use Rattle.note_lines.proofs.cause_lines.causes_text.Given as goal

-- the advice so far
abbrev pub invariant-loop-at : goal.invariant-loop-at
invariant-loop-at l = l.text.items ≡ advices_below l.bytes l.names.objects.items l.names.tasks.items
    (operation_of (program_with l.program l.facts)) l.alarms l.advices l.at
