use Rattle.std.proofs.Common.{◌↔◌, ◌⊎◌, ◌∙◌, ap, length}
use Rattle.std.specs.Prelude.{Contains}
use Rattle.std.proofs.lemmas.Result.{on_ok_weaker}
use Rattle.program_reports.specs.post_recheck.table_covers.Solutions.{at}
use Rattle.program_reports.specs.post_recheck.program_equations.Solutions.{tables_of}
use Rattle.program_reports.specs.post_recheck.body_systems.Systems.{body_of}
use Rattle.program_reports.specs.post_recheck.program_systems.ProgramFacts.{program_with}
use Rattle.program_reports.specs.post_recheck.Pairs.{lists_of}
use Rattle.program_reports.proofs.Numbered.{table_is, table_fits, of_same}
use Rattle.access_groups.specs.reading.Sites.{IsSiteBelow}
use Rattle.access_groups.proofs.Adding.{in_bodies, of_task}
use Rattle.access_groups.proofs.tasks.add_task.Goals as goal

pub body_over_store-body-requires-clause-number : goal.body_over_store-body-requires-clause-number
body_over_store-body-requires-clause-number c =
    in_bodies c.args.program.now c.args.facts.now c.requires.analysable c.requires.facts c.args.number c.requires.number

pub body_parts-parts-requires-clause-number : goal.body_parts-parts-requires-clause-number
body_parts-parts-requires-clause-number c =
    in_bodies c.args.program.now c.args.facts.now c.requires.analysable c.requires.facts c.args.number c.requires.number

pub add_copies-requires-clause-table : goal.add_copies-requires-clause-table
add_copies-requires-clause-table c =
    let program = c.args.program.now in
    let facts = c.args.facts.now in
    let number = c.args.number in
    let tables = c.args.tables.now in
    let store = c.args.store.now in
    let parts = c.body_parts-parts.result in
    let below = in_bodies program facts c.requires.analysable c.requires.facts number c.requires.number in
    let body-is = ap body_of c.body_parts-parts.ensures.body ∙ c.body_over_store-body.ensures.body in
    let table-is = table_is program facts c.requires.analysable c.requires.facts number below tables store
    c.requires.fits c.index-tables-number.result c.index-tables-number.is c.deref.result.now c.deref.ensures.value in
    table_fits program facts c.requires.analysable c.requires.facts number below tables store c.requires.fits
    (body_of parts.body.now) body-is c.deref.result.now table-is

pub returns : goal.returns
returns c =
    let program = c.args.program.now in
    let facts = c.args.facts.now in
    let number = c.args.number in
    let tables = c.args.tables.now in
    let store = c.args.store.now in
    let parts = c.body_parts-parts.result in
    let below = in_bodies program facts c.requires.analysable c.requires.facts number c.requires.number in
    let body-is = ap body_of c.body_parts-parts.ensures.body ∙ c.body_over_store-body.ensures.body in
    let table-is = table_is program facts c.requires.analysable c.requires.facts number below tables store
    c.requires.fits c.index-tables-number.result c.index-tables-number.is c.deref.result.now c.deref.ensures.value in
    on_ok_weaker c.add_copies.result
    (λ h x. of_task (program_with program facts) (tables_of (lists_of tables)) number c.requires.number x
    (of_same program facts c.requires.analysable c.requires.facts number below tables store c.requires.fits
    (body_of parts.body.now) body-is c.deref.result.now table-is (length parts.copies.now)
    (ap length c.body_parts-parts.ensures.parts.copies)
    (λ b ts n. Contains c.add_copies.new.sites.items x ↔ (Contains c.args.sites.now.items x ⊎ IsSiteBelow b (at ts) n x))
    (h x))) c.add_copies.ensures
