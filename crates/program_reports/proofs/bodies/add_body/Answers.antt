use Rattle.std.proofs.Common.{ap, ◌∙◌, length}
use Rattle.std.proofs.lemmas.Result.{on_ok_weaker}
use Rattle.post_recheck.specs.body_systems.Systems.{body_of}
use Rattle.program_reports.proofs.Numbered.{table_is, table_fits, alarm_of, access_of}
use Rattle.program_reports.proofs.bodies.add_body.Goals as goal

pub add_copies-requires-clause-table : goal.add_copies-requires-clause-table
add_copies-requires-clause-table c =
    let program = c.args.program.now in
    let facts = c.args.facts.now in
    let number = c.args.number in
    let tables = c.args.tables.now in
    let store = c.args.store.now in
    let parts = c.body_parts-parts.result in
    let body-is = ap body_of c.body_parts-parts.ensures.body ∙ c.body_over_store-body.ensures.body in
    let table-is = table_is program facts c.requires.analysable c.requires.facts number c.requires.number tables store
    c.requires.fits c.index-tables-number.result c.index-tables-number.is c.deref.result.now c.deref.ensures.value in
    table_fits program facts c.requires.analysable c.requires.facts number c.requires.number tables store c.requires.fits
    (body_of parts.body.now) body-is c.deref.result.now table-is

pub returns-clause-alarms : goal.returns-clause-alarms
returns-clause-alarms c =
    let program = c.args.program.now in
    let facts = c.args.facts.now in
    let number = c.args.number in
    let tables = c.args.tables.now in
    let store = c.args.store.now in
    let parts = c.body_parts-parts.result in
    let body-is = ap body_of c.body_parts-parts.ensures.body ∙ c.body_over_store-body.ensures.body in
    let table-is = table_is program facts c.requires.analysable c.requires.facts number c.requires.number tables store
    c.requires.fits c.index-tables-number.result c.index-tables-number.is c.deref.result.now c.deref.ensures.value in
    on_ok_weaker c.add_copies.result
    (λ h a. alarm_of program facts c.requires.analysable c.requires.facts number c.requires.number tables store
    c.requires.fits (body_of parts.body.now) body-is c.deref.result.now table-is (length parts.copies.now)
    (ap length c.body_parts-parts.ensures.parts.copies) a (h a)) c.add_copies.ensures.alarms

pub returns-clause-accesses : goal.returns-clause-accesses
returns-clause-accesses c =
    let program = c.args.program.now in
    let facts = c.args.facts.now in
    let number = c.args.number in
    let tables = c.args.tables.now in
    let store = c.args.store.now in
    let parts = c.body_parts-parts.result in
    let body-is = ap body_of c.body_parts-parts.ensures.body ∙ c.body_over_store-body.ensures.body in
    let table-is = table_is program facts c.requires.analysable c.requires.facts number c.requires.number tables store
    c.requires.fits c.index-tables-number.result c.index-tables-number.is c.deref.result.now c.deref.ensures.value in
    on_ok_weaker c.add_copies.result
    (λ h x. access_of program facts c.requires.analysable c.requires.facts number c.requires.number tables store
    c.requires.fits (body_of parts.body.now) body-is c.deref.result.now table-is (length parts.copies.now)
    (ap length c.body_parts-parts.ensures.parts.copies) parts.is_task c.body_parts-parts.ensures.is_task x (h x))
    c.add_copies.ensures.accesses
