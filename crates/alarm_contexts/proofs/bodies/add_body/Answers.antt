use Rattle.std.proofs.Common.{◌↔◌, ◌⊎◌, ◌∙◌, length, ap, subst}
use Rattle.std.specs.Prelude.{Contains}
use Rattle.std.proofs.lemmas.Result.{on_ok_weaker}
use Rattle.interfere_set.specs.Stores.{Interferences}
use Rattle.program_reports.specs.post_recheck.table_covers.Solutions.{at}
use Rattle.program_reports.specs.post_recheck.body_systems.Systems.{body_of}
use Rattle.program_reports.proofs.Numbered.{table_is, table_fits, of_same}
use Rattle.alarm_contexts.specs.reading.Found.{IsContextBelow}
use Rattle.alarm_contexts.proofs.bodies.add_body.Goals as goal

pub add_copies-requires-clause-table : goal.add_copies-requires-clause-table
add_copies-requires-clause-table c =
    let program = c.args.program.now in
    let facts = c.args.facts.now in
    let number = c.args.number in
    let tables = c.args.tables.now in
    let store = c.args.store.now in
    let parts = c.body_parts-parts.result in
    let body-is = ap body_of c.body_parts-parts.ensures.body ∙ c.body_over_store-body.ensures.body in
    let table-is = table_is program facts c.requires.analysable c.requires.facts number c.requires.number tables store
    c.requires.fits c.index-tables-number.result c.index-tables-number.is c.deref.result.now c.deref.ensures.value in
    table_fits program facts c.requires.analysable c.requires.facts number c.requires.number tables store c.requires.fits
    (body_of parts.body.now) body-is c.deref.result.now table-is

pub returns : goal.returns
returns c =
    let program = c.args.program.now in
    let facts = c.args.facts.now in
    let number = c.args.number in
    let tables = c.args.tables.now in
    let store = c.args.store.now in
    let parts = c.body_parts-parts.result in
    let body-is = ap body_of c.body_parts-parts.ensures.body ∙ c.body_over_store-body.ensures.body in
    let table-is = table_is program facts c.requires.analysable c.requires.facts number c.requires.number tables store
    c.requires.fits c.index-tables-number.result c.index-tables-number.is c.deref.result.now c.deref.ensures.value in
    let store-is = ap (λ over. over.store) c.body_parts-parts.ensures.body ∙ c.body_over_store-body.ensures.store in
    on_ok_weaker c.add_copies.result
    (λ h x. of_same program facts c.requires.analysable c.requires.facts number c.requires.number tables store
    c.requires.fits (body_of parts.body.now) body-is c.deref.result.now table-is (length parts.copies.now)
    (ap length c.body_parts-parts.ensures.parts.copies)
    (λ b ts n. Contains c.add_copies.new.contexts.items x ↔ (Contains c.args.contexts.now.items x
    ⊎ IsContextBelow b store (at ts) n x))
    (subst (λ (s : Interferences). Contains c.add_copies.new.contexts.items x ↔ (Contains c.args.contexts.now.items x
    ⊎ IsContextBelow (body_of parts.body.now) s (at c.deref.result.now) (length parts.copies.now) x)) store-is (h x)))
    c.add_copies.ensures
