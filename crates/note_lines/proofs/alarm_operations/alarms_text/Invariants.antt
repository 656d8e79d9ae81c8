use Rattle.std.proofs.Common.{◌≡◌, take}
use Rattle.std.specs.List.{flat_map}
use Rattle.post_recheck.specs.program_systems.ProgramFacts.{program_with}
use Rattle.program_notes.specs.Operations.{operation_of}
use Rattle.note_lines.specs.AlarmTexts.{alarm_text}
use Rattle.note_lines.proofs.alarm_operations.alarms_text.Given as goal

-- the texts of the alarms so far
abbrev pub invariant-loop-alarm : goal.invariant-loop-alarm
invariant-loop-alarm l = l.text.items ≡ flat_map (λ a. alarm_text l.bytes l.names.objects.items l.names.tasks.items
    l.names.priorities.items l.names.mutexes.items a (operation_of (program_with l.program l.facts) a))
    (take l.alarm-index l.alarms)
