use Rattle.std.proofs.Common.{refl, sym, subst}
use Rattle.worker_solutions.specs.program_systems.ReadPrograms.{program_of}
use Rattle.source_notes.specs.reading.PartsTold.{TellsReportOf}
use Rattle.source_notes.proofs.parts.push_report.Goals as goal

pub returns : goal.returns
returns c =
    let reply = c.in_ok-reply.reply in
    let told : TellsReportOf (program_of c.args.analysis.now) c.args.found.now reply.status c.deref.result.now =
    subst (TellsReportOf (program_of c.args.analysis.now) c.args.found.now reply.status) (sym c.deref.ensures.value)
    c.in_ok-reply.ensures in
    record {
      part = record { status = reply.status; text = c.deref.result.now; told = told };
      comes = refl;
      is = c.in_ok-push_part.ensures;
    }
