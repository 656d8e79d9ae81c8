use Rattle.std.specs.Prelude.{codes}
use Rattle.worker_solutions.specs.program_systems.ReadPrograms.{program_of}
use Rattle.source_findings.specs.Tellings.{TellsRangesOf}
use Rattle.source_notes.proofs.PartsAdded.{added}
use Rattle.source_notes.proofs.parts.push_ranges.Goals as goal

pub returns : goal.returns
returns c =
    let reply = c.in_ok-reply.reply in
    added (TellsRangesOf (program_of c.args.analysis.now) c.args.bytes.now c.args.found.now)
    c.push_part.result (codes "ranges") c.args.text.now.items c.push_part.new.text.items c.deref.result.now
    reply.text.items reply.status c.push_part.ensures c.deref.ensures.value c.in_ok-reply.ensures
