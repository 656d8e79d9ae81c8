use Rattle.std.proofs.Common.{◌≤◌, ◌^◌, ◌∙◌, ap, sym, subst, drop, length, Some, None}
use Rattle.std.specs.Prelude.{option_map}
use Rattle.tm_laid.specs.Layouts.{laid_tree}
use Rattle.post_recheck.specs.Pairs.{lists_of}
use Rattle.post_recheck.specs.program_systems.ProgramFacts.{program_with}
use Rattle.certificate_reading.specs.Stores.{IsLastStore}
use Rattle.certificate_reading.specs.Tables.{AreReadTables, FitsBodyTable}
use Rattle.certificate_reading.proofs.BodiesRead.{cells_few}
use Rattle.certificate_reading.proofs.PairsRead.{sizes_few, tasks_few, pair_none, pair_no_last, pair_whole}
use Rattle.certificate_reading.proofs.pairs.read.Goals as goal

pub tables_in-requires-clause-few : goal.tables_in-requires-clause-few
tables_in-requires-clause-few c =
    subst (λ xs. length xs ≤ 2 ^ 32) (sym c.deref.ensures.value)
    (sizes_few (laid_tree c.args.program.now.laid) c.in_ok-sizes.sizes.items c.in_ok-sizes.ensures c.requires.few)

pub store_at_end-requires-clause-few : goal.store_at_end-requires-clause-few
store_at_end-requires-clause-few c =
    subst (λ xs. length xs ≤ 2 ^ 32) (sym c.deref-in-Some.ensures.value)
    (sizes_few (laid_tree c.args.program.now.laid) c.in_ok-sizes.sizes.items c.in_ok-sizes.ensures c.requires.few)

pub store_at_end-requires-clause-tasks : goal.store_at_end-requires-clause-tasks
store_at_end-requires-clause-tasks c =
    tasks_few c.args.program.now c.args.facts.now c.requires.analysable c.requires.facts

pub store_at_end-requires-clause-cells : goal.store_at_end-requires-clause-cells
store_at_end-requires-clause-cells c =
    cells_few c.args.program.now c.args.facts.now c.requires.analysable c.requires.facts

pub returns-in-None : goal.returns-in-None
returns-in-None c =
    pair_none c.args.program.now c.args.facts.now c.requires.analysable c.requires.facts
    (drop c.args.start c.args.bytes.items) c.numbers_are_small.ensures c.new-text.result c.tables_in.new.text
    (option_map (λ v. lists_of v.items) c.in_ok-found.found) c.new-text.ensures c.in_ok-found.ensures
    (ap (option_map (λ v. lists_of v.items)) c.in-None.is)

pub returns-in-None-last : goal.returns-in-None-last
returns-in-None-last c =
    let p = program_with c.args.program.now c.args.facts.now in
    let laid = laid_tree c.args.program.now.laid in
    let mid = c.tables_in.new.text in
    let told = c.in_ok-ahead-in-Some.ahead in
    let rows = subst (λ r. AreReadTables (FitsBodyTable p) (length p.bodies) c.new-text.result
    (option_map (λ v. lists_of v.items) r) mid) c.in-Some.is c.in_ok-found.ensures in
    let last = subst (λ text. IsLastStore laid text None) (c.in_ok-ahead-in-Some.ensures ∙ c.rest.ensures)
    (subst (λ r. IsLastStore laid told r) c.in-None-last.is c.in_ok-last-in-Some.ensures) in
    pair_no_last c.args.program.now c.args.facts.now c.requires.analysable c.requires.facts
    (drop c.args.start c.args.bytes.items) c.numbers_are_small.ensures c.new-text.result mid
    (lists_of c.in-Some.tables.items) c.new-text.ensures rows last

pub returns : goal.returns
returns c =
    let p = program_with c.args.program.now c.args.facts.now in
    let laid = laid_tree c.args.program.now.laid in
    let mid = c.tables_in.new.text in
    let told = c.in_ok-ahead-in-Some.ahead in
    let store = c.in-Some-last.store in
    let rows = subst (λ r. AreReadTables (FitsBodyTable p) (length p.bodies) c.new-text.result
    (option_map (λ v. lists_of v.items) r) mid) c.in-Some.is c.in_ok-found.ensures in
    let last = subst (λ text. IsLastStore laid text (Some store)) (c.in_ok-ahead-in-Some.ensures ∙ c.rest.ensures)
    (subst (λ r. IsLastStore laid told r) c.in-Some-last.is c.in_ok-last-in-Some.ensures) in
    pair_whole c.args.program.now c.args.facts.now c.requires.analysable c.requires.facts
    (drop c.args.start c.args.bytes.items) c.numbers_are_small.ensures c.new-text.result mid
    (lists_of c.in-Some.tables.items) store c.new-text.ensures rows last
