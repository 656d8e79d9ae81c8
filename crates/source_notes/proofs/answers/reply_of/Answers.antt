use Rattle.std.proofs.Common.{sym, subst}
use Rattle.std.specs.Prelude.{IfOk}
use Rattle.worker_solutions.specs.program_systems.ReadPrograms.{program_of}
use Rattle.source_notes.specs.reading.PartsTold.{TellsOf}
use Rattle.source_notes.proofs.answers.reply_of.Goals as goal

pub returns-in-Report : goal.returns-in-Report
returns-in-Report c =
    subst (λ n. IfOk c.report_reply.result (λ reply. TellsOf n (program_of c.args.analysis.now) c.args.bytes.now
    c.args.names.now c.args.declared.now c.args.opened.now c.args.found.now reply.status reply.text.items)) (sym c.in-Report.is)
    c.report_reply.ensures

pub returns-in-Rings : goal.returns-in-Rings
returns-in-Rings c =
    subst (λ n. IfOk c.rings_reply.result (λ reply. TellsOf n (program_of c.args.analysis.now) c.args.bytes.now
    c.args.names.now c.args.declared.now c.args.opened.now c.args.found.now reply.status reply.text.items)) (sym c.in-Rings.is)
    c.rings_reply.ensures

pub returns-in-Races : goal.returns-in-Races
returns-in-Races c =
    subst (λ n. IfOk c.races_reply.result (λ reply. TellsOf n (program_of c.args.analysis.now) c.args.bytes.now
    c.args.names.now c.args.declared.now c.args.opened.now c.args.found.now reply.status reply.text.items)) (sym c.in-Races.is)
    c.races_reply.ensures

pub returns-in-Alarms : goal.returns-in-Alarms
returns-in-Alarms c =
    subst (λ n. IfOk c.alarms_reply.result (λ reply. TellsOf n (program_of c.args.analysis.now) c.args.bytes.now
    c.args.names.now c.args.declared.now c.args.opened.now c.args.found.now reply.status reply.text.items)) (sym c.in-Alarms.is)
    c.alarms_reply.ensures

pub returns-in-Whole : goal.returns-in-Whole
returns-in-Whole c =
    subst (λ n. IfOk c.whole_reply.result (λ reply. TellsOf n (program_of c.args.analysis.now) c.args.bytes.now
    c.args.names.now c.args.declared.now c.args.opened.now c.args.found.now reply.status reply.text.items)) (sym c.in-Whole.is)
    c.whole_reply.ensures

pub returns-in-Parts : goal.returns-in-Parts
returns-in-Parts c =
    subst (λ n. IfOk c.parts_reply.result (λ reply. TellsOf n (program_of c.args.analysis.now) c.args.bytes.now
    c.args.names.now c.args.declared.now c.args.opened.now c.args.found.now reply.status reply.text.items)) (sym c.in-Parts.is)
    c.parts_reply.ensures

pub returns-in-Causes : goal.returns-in-Causes
returns-in-Causes c =
    subst (λ n. IfOk c.causes_reply.result (λ reply. TellsOf n (program_of c.args.analysis.now) c.args.bytes.now
    c.args.names.now c.args.declared.now c.args.opened.now c.args.found.now reply.status reply.text.items)) (sym c.in-Causes.is)
    c.causes_reply.ensures

pub returns-in-Assumptions : goal.returns-in-Assumptions
returns-in-Assumptions c =
    subst (λ n. IfOk c.assumed_reply.result (λ reply. TellsOf n (program_of c.args.analysis.now) c.args.bytes.now
    c.args.names.now c.args.declared.now c.args.opened.now c.args.found.now reply.status reply.text.items)) (sym c.in-Assumptions.is)
    c.assumed_reply.ensures
