use Rattle.std.proofs.Common.{◌∙◌, ap, sym}
use Rattle.worker_solutions.specs.program_systems.ReadPrograms.{ReadProgram, program_of}
use Rattle.program_notes.specs.NotesTexts.{notes_text}
use Rattle.program_notes.specs.Operations.{operation_of}
use Rattle.source_notes.specs.Notes.{report_status}
use Rattle.source_notes.proofs.answers.told_notes.Goals as goal

pub returns : goal.returns
returns c =
    let contents = c.args.contents.now in
    record {
      contents = contents;
      are = c.requires;
      comes = c.report_status.ensures ∙ ap report_status c.deref.ensures.value;
      is = c.in_ok-text.ensures
          ∙ ap (λ (r : ReadProgram). notes_text c.args.bytes.now c.args.declared.now (operation_of (program_of r))
          contents) (sym c.parts.ensures.program);
    }
