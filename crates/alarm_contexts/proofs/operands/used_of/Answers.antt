use Rattle.std.proofs.Common.{◌↔◌, ◌<◌, ◌∙◌, ap, sym, subst, length}
use Rattle.std.specs.Prelude.{Contains}
use Rattle.std.proofs.lemmas.Result.{IfOk-weaker}
use Rattle.tm_laid.specs.Layouts.{laid_tree}
use Rattle.program_reports.specs.post_recheck.table_covers.Solutions.{at}
use Rattle.program_reports.specs.post_recheck.body_systems.Systems.{body_of}
use Rattle.program_reports.specs.post_recheck.program_equations.Readings.{read_layout}
use Rattle.program_reports.proofs.low.program_systems.Bodies.{is_program}
use Rattle.program_reports.specs.reading.Found.{operation_at}
use Rattle.program_reports.proofs.Numbered.{table_is, table_fits}
use Rattle.alarm_contexts.specs.Flaws.{HasFlaw}
use Rattle.alarm_contexts.specs.reading.Operands.{operands_at}
use Rattle.alarm_contexts.proofs.Reading.{flaw_read}
use Rattle.alarm_contexts.proofs.operands.used_of.Goals as goal

pub used_at-requires-clause-table : goal.used_at-requires-clause-table
used_at-requires-clause-table c =
    let program = c.args.program.now in
    let facts = c.args.facts.now in
    let number = c.args.context.exit.body in
    let tables = c.args.tables.now in
    let store = c.args.store.now in
    let parts = c.body_parts-parts.result in
    let body-is = ap body_of c.body_parts-parts.ensures.body ∙ c.body_over_store-body.ensures.body in
    let table-is = table_is program facts c.requires.analysable c.requires.facts number c.requires.number tables store
    c.requires.fits c.index-tables-number.result c.index-tables-number.is c.deref.result.now c.deref.ensures.value in
    table_fits program facts c.requires.analysable c.requires.facts number c.requires.number tables store c.requires.fits
    (body_of parts.body.now) body-is c.deref.result.now table-is

pub used_at-requires-clause-copy : goal.used_at-requires-clause-copy
used_at-requires-clause-copy c =
    let body-is = ap body_of c.body_parts-parts.ensures.body ∙ c.body_over_store-body.ensures.body in
    let there = subst (λ b. c.args.context.exit.copy < length b.copies) (sym body-is) c.requires.copy in
    subst (λ n. c.args.context.exit.copy < n) (sym (ap length c.body_parts-parts.ensures.parts.copies)) there

pub used_at-requires-clause-layable : goal.used_at-requires-clause-layable
used_at-requires-clause-layable c = c.requires.analysable.layable

pub used_at-requires-clause-few : goal.used_at-requires-clause-few
used_at-requires-clause-few c =
    (is_program c.args.program.now c.args.facts.now c.requires.analysable c.requires.facts).few_cells

pub returns-clause-operands : goal.returns-clause-operands
returns-clause-operands c =
    let program = c.args.program.now in
    let facts = c.args.facts.now in
    let number = c.args.context.exit.body in
    let tables = c.args.tables.now in
    let store = c.args.store.now in
    let body-is = ap body_of c.body_parts-parts.ensures.body ∙ c.body_over_store-body.ensures.body in
    let table-is = table_is program facts c.requires.analysable c.requires.facts number c.requires.number tables store
    c.requires.fits c.index-tables-number.result c.index-tables-number.is c.deref.result.now c.deref.ensures.value in
    IfOk-weaker c.used_at.result _ _
    (λ used h. h ∙ (λ i. operands_at (body-is i) (at (table-is i)) c.args.context.exit.copy)) c.used_at.ensures.operands

pub returns-clause-flaws : goal.returns-clause-flaws
returns-clause-flaws c =
    let program = c.args.program.now in
    let facts = c.args.facts.now in
    let number = c.args.context.exit.body in
    let tables = c.args.tables.now in
    let store = c.args.store.now in
    let parts = c.body_parts-parts.result in
    let body-is = ap body_of c.body_parts-parts.ensures.body ∙ c.body_over_store-body.ensures.body in
    let table-is = table_is program facts c.requires.analysable c.requires.facts number c.requires.number tables store
    c.requires.fits c.index-tables-number.result c.index-tables-number.is c.deref.result.now c.deref.ensures.value in
    let over = body_of parts.body.now in
    let copy = c.args.context.exit.copy in
    let laid = laid_tree program.laid in
    IfOk-weaker c.used_at.result _ _
    (λ used h f. subst (λ A. Contains used.flaws.items f ↔ A)
    (sym (flaw_read laid (operation_at over copy) (operands_at over (at c.deref.result.now) copy) f)
    ∙ (λ i. HasFlaw (read_layout laid) (operation_at (body-is i) copy) (operands_at (body-is i) (at (table-is i)) copy) f))
    (h f)) c.used_at.ensures.flaws
