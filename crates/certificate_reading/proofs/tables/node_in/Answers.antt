use Rattle.std.proofs.Common.{ℕ, ◌<◌, ◌^◌, subst, sym, Some, arith}
use Rattle.certificate_texts.specs.TableLines.{node_lines_of}
use Rattle.certificate_reading.specs.Series.{IsRowIn}
use Rattle.certificate_reading.specs.Tables.{FitsNode, EndsNode, EndsTable}
use Rattle.tm_laid.specs.Layouts.{laid_tree}
use Rattle.post_recheck.specs.state_fits.Fits.{FitsPlace}
use Rattle.post_recheck.specs.state_fits.Kinds.{InExtents}
use Rattle.certificate_reading.specs.States.{IsReadState}
use Rattle.certificate_reading.proofs.Matches.{on_false, on_true}
use Rattle.certificate_reading.proofs.TablesRead.{node_none, node_some, node_stuck}
use Rattle.certificate_reading.proofs.tables.node_in.Goals as goal

pub returns-then-not-taken-clause-node : goal.returns-then-not-taken-clause-node
returns-then-not-taken-clause-node c =
    let laid = laid_tree c.args.laid.now in
    let t = on_false _ _ c.in_ok-taken.taken c.in_ok-taken.ensures c.if-not-taken.true in
    node_none (λ n. FitsPlace laid c.args.body (InExtents laid c.args.extents.now) c.args.live.now) c.args.node
    c.args.ahead.now c.take_numbered.new.ahead t.1 t.0

pub returns-in-None-clause-node : goal.returns-in-None-clause-node
returns-in-None-clause-node c =
    let laid = laid_tree c.args.laid.now in
    let begins = on_true _ _ c.in_ok-taken.taken c.in_ok-taken.ensures c.if-not-taken.false in
    let mid = c.take_numbered.new.ahead in
    let small : c.args.node < 2 ^ 64 = (let f = c.ranges.node.fits in omega (arith, f)) in
    node_stuck (λ n. FitsPlace laid c.args.body (InExtents laid c.args.extents.now) c.args.live.now) c.args.node small laid
    c.args.body c.args.extents.now c.args.live.now c.args.ahead.now mid begins (λ s h. h)
    (subst (λ r. IsReadState laid c.args.body c.args.extents.now c.args.live.now mid r c.state_in.new.ahead)
    c.in-None.is c.in_ok-found.ensures.state)

pub returns-in-Some-clause-node : goal.returns-in-Some-clause-node
returns-in-Some-clause-node c =
    let laid = laid_tree c.args.laid.now in
    let begins = on_true _ _ c.in_ok-taken.taken c.in_ok-taken.ensures c.if-not-taken.false in
    let mid = c.take_numbered.new.ahead in
    let small : c.args.node < 2 ^ 64 = (let f = c.ranges.node.fits in omega (arith, f)) in
    let new = c.state_in.new.ahead in
    let state = subst (λ r. IsReadState laid c.args.body c.args.extents.now c.args.live.now mid r new) c.in-Some.is
    c.in_ok-found.ensures.state in
    let fits = λ (n : ℕ). FitsPlace laid c.args.body (InExtents laid c.args.extents.now) c.args.live.now in
    subst (λ s. IsRowIn node_lines_of (FitsNode fits) EndsNode EndsTable c.args.node c.args.ahead.now (Some s) new)
    (sym c.new.ensures)
    (node_some fits c.args.node small laid c.args.body c.args.extents.now c.args.live.now c.args.ahead.now mid begins
    (λ s h. h) c.in-Some.state new state.fits state)
