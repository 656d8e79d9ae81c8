use Rattle.std.proofs.Common.{ap, sym, ◌∙◌, Some}
use Rattle.std.proofs.lemmas.Result.{IfOk-weaker}
use Rattle.program_reports.specs.post_recheck.table_covers.Solutions.{at}
use Rattle.program_reports.specs.post_recheck.body_systems.Systems.{body_of}
use Rattle.graph_facts.specs.Uses.{listed}
use Rattle.program_reports.proofs.Tables.{reached}
use Rattle.alarm_contexts.proofs.Leaving.{operands_some, operands_none}
use Rattle.alarm_contexts.proofs.operands.operands_at.Goals as goal

pub returns-in-Some : goal.returns-in-Some
returns-in-Some c =
    let b = body_of c.args.parts.body.now in
    let there = reached b c.args.parts c.requires.parts c.args.table.now c.requires.table c.args.copy c.requires.copy
    c.index-table-parts.result c.index-table-parts.is in
    IfOk-weaker c.values_of.result _ _
    (λ values h. operands_some b (at c.args.table.now) c.args.copy c.state.result.now
    (there ∙ c.in-Some.is ∙ ap Some (sym c.state.ensures)) c.operation_of.result c.operation_of.ensures
    (listed c.used-temps.result) c.used-temps.ensures values.items h) c.values_of.ensures

pub returns-in-None : goal.returns-in-None
returns-in-None c =
    let b = body_of c.args.parts.body.now in
    let there = reached b c.args.parts c.requires.parts c.args.table.now c.requires.table c.args.copy c.requires.copy
    c.index-table-parts.result c.index-table-parts.is in
    operands_none b (at c.args.table.now) c.args.copy (there ∙ c.in-None.is) c.new.result.items c.new.ensures.items
