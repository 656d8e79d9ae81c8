use Rattle.std.proofs.Common.{◌≡◌, ◌∙◌, ap, sym, subst, length, get_or, List, ◌<◌, arith}
use Rattle.std.specs.Prelude.{option_map}
use Rattle.body_systems.specs.Facts.{Facts}
use Rattle.post_recheck.specs.Pairs.{lists_of}
use Rattle.post_recheck.specs.program_systems.ProgramFacts.{program_with}
use Rattle.post_recheck.proofs.low.program_systems.Bodies.{body_count}
use Rattle.certificate_reading.specs.Series.{HasNoRow, IsRowIn}
use Rattle.certificate_reading.specs.Tables.{EndsAnyTable, EndsTable, FitsBodyTable, lines_of_table, IsReadTable}
use Rattle.certificate_reading.proofs.SeriesRead.{rows_more, rows_stuck, rows_all, next_count}
use Rattle.certificate_reading.proofs.TablesRead.{tables_behind}
use Rattle.certificate_reading.proofs.BodiesRead.{cells_few, live_here, read_table, lists_length, lists_more}
use Rattle.certificate_reading.proofs.tables.tables_in.Goals as goal

pub table_from-requires-clause-cells : goal.table_from-requires-clause-cells
table_from-requires-clause-cells c =
    cells_few c.args.program.now c.args.facts.now c.requires.analysable c.requires.facts

pub table_from-requires-clause-live : goal.table_from-requires-clause-live
table_from-requires-clause-live c =
    let program = c.args.program.now in
    let facts = c.args.facts.now in
    let p = program_with program facts in
    let t = c.loop-body.body in
    let here = c.loop-body-test.true in
    let end = c.len-body-end.ensures in
    let ok = program.graphs.graphs.ok.0 in
    let bodies : length p.bodies ≡ length program.graphs.graphs.items =
    body_count program facts c.requires.analysable c.requires.facts in
    let lt : t < length p.bodies = omega (arith, here, end, ok, bodies) in
    let known = c.index-known-body.result in
    live_here program facts c.requires.analysable c.requires.facts t lt c.index.result.now
    c.index-in-loop-body.result.now known c.index.ensures c.index-in-loop-body.ensures
    (c.index-known-body.is ∙ ap (λ (xs : List Facts). get_or xs t known) c.bodies-known.ensures)

pub returns-in-None : goal.returns-in-None
returns-in-None c =
    let program = c.args.program.now in
    let facts = c.args.facts.now in
    let p = program_with program facts in
    let t = c.loop-body.body in
    let old = c.args.text.now in
    let mid = c.loop-body.text in
    let new = c.table_from.new.text in
    let zs = lists_of c.loop-body.tables.items in
    let here = c.loop-body-test.true in
    let end = c.len-body-end.ensures in
    let ok = program.graphs.graphs.ok.0 in
    let bodies : length p.bodies ≡ length program.graphs.graphs.items =
    body_count program facts c.requires.analysable c.requires.facts in
    let lt : t < length p.bodies = omega (arith, here, end, ok, bodies) in
    let count : length zs ≡ t = lists_length c.loop-body.tables.items ∙ c.loop-body.invariant.count in
    let less : length zs < length p.bodies = omega (arith, lt, count) in
    let known = c.index-known-body.result in
    let read = read_table program facts c.requires.analysable c.requires.facts t lt c.index.result.now
    c.index-in-loop-body.result.now known c.index.ensures c.index-in-loop-body.ensures
    (c.index-known-body.is ∙ ap (λ (xs : List Facts). get_or xs t known) c.bodies-known.ensures) mid new
    (option_map (λ v. v.items) c.in_ok-found.found) c.in_ok-found.ensures in
    let none = subst (λ r. IsReadTable (FitsBodyTable p) t mid (option_map (λ v. v.items) r) new) c.in-None.is read in
    rows_stuck lines_of_table (FitsBodyTable p) EndsAnyTable EndsTable (tables_behind (FitsBodyTable p)) (length p.bodies)
    old mid zs less c.loop-body.invariant.far
    (subst (λ k. HasNoRow lines_of_table (FitsBodyTable p) EndsAnyTable EndsTable k mid) (sym count) none)

pub loop-body-preserved : goal.loop-body-preserved
loop-body-preserved c =
    let program = c.args.program.now in
    let facts = c.args.facts.now in
    let p = program_with program facts in
    let t = c.loop-body.body in
    let old = c.args.text.now in
    let mid = c.loop-body.text in
    let new = c.table_from.new.text in
    let ts = c.loop-body.tables.items in
    let zs = lists_of ts in
    let table = c.in-Some.table in
    let here = c.loop-body-test.true in
    let end = c.len-body-end.ensures in
    let ok = program.graphs.graphs.ok.0 in
    let bodies : length p.bodies ≡ length program.graphs.graphs.items =
    body_count program facts c.requires.analysable c.requires.facts in
    let lt : t < length p.bodies = omega (arith, here, end, ok, bodies) in
    let count : length zs ≡ t = lists_length ts ∙ c.loop-body.invariant.count in
    let less : length zs < length p.bodies = omega (arith, lt, count) in
    let known = c.index-known-body.result in
    let read = read_table program facts c.requires.analysable c.requires.facts t lt c.index.result.now
    c.index-in-loop-body.result.now known c.index.ensures c.index-in-loop-body.ensures
    (c.index-known-body.is ∙ ap (λ (xs : List Facts). get_or xs t known) c.bodies-known.ensures) mid new
    (option_map (λ v. v.items) c.in_ok-found.found) c.in_ok-found.ensures in
    let some = subst (λ r. IsReadTable (FitsBodyTable p) t mid (option_map (λ v. v.items) r) new) c.in-Some.is read in
    record {
      count = next_count ts c.push.new.self.items table t c.loop-body.invariant.count c.in_ok-push-in-Some.ensures.items;
      far = rows_more lines_of_table (FitsBodyTable p) EndsAnyTable EndsTable (tables_behind (FitsBodyTable p))
          (length p.bodies) old mid new zs (lists_of c.push.new.self.items) table.items less c.loop-body.invariant.far
          (subst (λ k. IsRowIn lines_of_table (FitsBodyTable p) EndsAnyTable EndsTable k mid table.items new) (sym count)
          some)
          (lists_more ts c.push.new.self.items table c.in_ok-push-in-Some.ensures.items);
    }

pub returns : goal.returns
returns c =
    let program = c.args.program.now in
    let facts = c.args.facts.now in
    let p = program_with program facts in
    let zs = lists_of c.loop-body.tables.items in
    let past = c.loop-body-test.false in
    let most = c.loop-body.auto.body-end in
    let end = c.len-body-end.ensures in
    let ok = program.graphs.graphs.ok.0 in
    let bodies : length p.bodies ≡ length program.graphs.graphs.items =
    body_count program facts c.requires.analysable c.requires.facts in
    let count : length zs ≡ c.loop-body.body = lists_length c.loop-body.tables.items ∙ c.loop-body.invariant.count in
    rows_all lines_of_table (FitsBodyTable p) EndsAnyTable EndsTable (length p.bodies) c.args.text.now c.loop-body.text zs
    (omega (arith, past, most, end, ok, bodies, count)) c.loop-body.invariant.far
