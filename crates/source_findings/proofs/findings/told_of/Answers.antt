use Rattle.std.proofs.Common.{sym, subst}
use Rattle.std.specs.Prelude.{IfOk}
use Rattle.program_solutions.specs.program_systems.ReadPrograms.{program_of}
use Rattle.source_findings.specs.Tellings.{TellsOf}
use Rattle.source_findings.proofs.findings.told_of.Goals as goal

pub returns-in-Waits : goal.returns-in-Waits
returns-in-Waits c =
    subst (λ f. IfOk c.waits_reply.result (λ reply. TellsOf f (program_of c.args.analysis.now) c.args.bytes.now
    c.args.found.now reply.status reply.text.items)) (sym c.in-Waits.is) c.waits_reply.ensures

pub returns-in-Ranges : goal.returns-in-Ranges
returns-in-Ranges c =
    subst (λ f. IfOk c.ranges_reply.result (λ reply. TellsOf f (program_of c.args.analysis.now) c.args.bytes.now
    c.args.found.now reply.status reply.text.items)) (sym c.in-Ranges.is) c.ranges_reply.ensures
