use Rattle.std.proofs.Common.{ap, sym, ◌∙◌, arith}
use Rattle.std.proofs.lemmas.Result.{on_ok_weaker}
use Rattle.program_reports.specs.post_recheck.Pairs.{lists_of}
use Rattle.program_reports.proofs.low.post_recheck.Found.{table_read, tables_counted}
use Rattle.lock_waits.proofs.Reading.{in_graphs, in_configured, in_tables, number_small, in_range, asked_of}
use Rattle.lock_waits.proofs.bodies.add_task.Goals as goal

pub index-configured-requires : goal.index-configured-requires
index-configured-requires c =
    let lt = in_configured c.args.program.now c.requires.analysable c.args.number c.requires.number in
    omega (arith, lt, c.args.program.now.configured.ok.0)

pub index-requires : goal.index-requires
index-requires c =
    let lt = in_graphs c.args.program.now c.requires.analysable c.args.number c.requires.number in
    omega (arith, lt, c.args.program.now.graphs.graphs.ok.0)

pub bounds-tables-number : goal.bounds-tables-number
bounds-tables-number c =
    tables_counted c.args.tables.now c.args.number
    (in_tables c.args.program.now c.requires.analysable c.args.number c.requires.number (lists_of c.args.tables.now)
    c.requires.tables)

pub overflow_cast-parts : goal.overflow_cast-parts
overflow_cast-parts c =
    let small = number_small c.args.program.now c.requires.analysable c.args.number c.requires.number in
    omega (arith, small)

pub add_copies-requires : goal.add_copies-requires
add_copies-requires c =
    let program = c.args.program.now in
    let lists = lists_of c.args.tables.now in
    let t = c.args.number in
    let counted = tables_counted c.args.tables.now t
    (in_tables program c.requires.analysable t c.requires.number lists c.requires.tables) in
    let table = c.deref-3.ensures.value ∙ ap (λ v. v.items) c.index-tables-number.is
    ∙ sym (table_read c.args.tables.now t c.index-tables-number.result counted) in
    in_range program c.requires.analysable t c.requires.number lists c.requires.tables _ c.index.result.now
    c.index-configured.result.now c.index.ensures c.index-configured.ensures c.deref.ensures.value
    c.as_slice.ensures.keys c.deref-2.ensures.value table

pub returns : goal.returns
returns c =
    let program = c.args.program.now in
    let lists = lists_of c.args.tables.now in
    let t = c.args.number in
    let counted = tables_counted c.args.tables.now t
    (in_tables program c.requires.analysable t c.requires.number lists c.requires.tables) in
    let table = c.deref-3.ensures.value ∙ ap (λ v. v.items) c.index-tables-number.is
    ∙ sym (table_read c.args.tables.now t c.index-tables-number.result counted) in
    on_ok_weaker c.add_copies.result
    (λ h facts are r. asked_of program c.requires.analysable t c.requires.number facts are c.index.result.now
    c.index-configured.result.now c.index.ensures c.index-configured.ensures lists r c.deref.result.now
    c.as_slice.result.now c.deref-2.result.now c.deref-3.result.now c.deref.ensures.value c.as_slice.ensures.keys
    c.deref-2.ensures.value table (h r)) c.add_copies.ensures
