use Rattle.std.proofs.Common.{arith}
use Rattle.std.proofs.lemmas.List.{at_drop_more, at_drop_all}
use Rattle.cell_layout.specs.reading.Counts.{sum_of, total_in}
use Rattle.cell_layout.proofs.counts.count_all.Goals as goal

pub loop-body-preserved : goal.loop-body-preserved
loop-body-preserved c =
    let more = at_drop_more (sum_of (total_in c.args.totals.now)) c.args.bodies.now c.loop-body.body-index 0
    c.loop-body-test.true in
    let a = c.capped-sum.ensures in
    let b = c.total_at.ensures in
    let d = c.loop-body.invariant.1 in
    (omega (arith, a), omega (arith, more, a, b, d))

pub returns : goal.returns
returns c =
    let none = at_drop_all (sum_of (total_in c.args.totals.now)) c.args.bodies.now c.loop-body.body-index (omega
    (arith, c.loop-body-test.false)) in
    let a = c.loop-body.invariant.0 in
    let b = c.loop-body.invariant.1 in
    omega (arith, none, a, b)
