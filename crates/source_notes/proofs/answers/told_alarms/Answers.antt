use Rattle.std.proofs.Common.{◌∙◌, ap, sym}
use Rattle.worker_solutions.specs.program_systems.ReadPrograms.{ReadProgram, program_of}
use Rattle.note_lines.specs.AlarmTexts.{alarms_text}
use Rattle.program_notes.specs.Operations.{operation_of}
use Rattle.source_notes.proofs.answers.told_alarms.Goals as goal

pub returns : goal.returns
returns c =
    let names = c.args.names.now in
    let alarms = c.args.alarms.now in
    record {
      alarms = alarms;
      are = c.requires;
      comes = c.alarms_status.ensures;
      is = c.in_ok-text.ensures
          ∙ ap (λ (r : ReadProgram). alarms_text c.args.bytes.now names.objects.items names.tasks.items
          names.priorities.items names.mutexes.items (operation_of (program_of r)) alarms)
          (sym c.parts.ensures.program);
    }
