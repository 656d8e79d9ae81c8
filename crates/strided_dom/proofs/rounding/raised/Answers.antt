use Rattle.std.proofs.Common.{pos, arith, SFits, rules, slice_index_or}
use Rattle.std.specs.Int.{w128}
use Rattle.std.proofs.lemmas.Int.{ints, to_z-of_z}
use Rattle.strided_dom.proofs.Thresholds.{raised_none, raised_at}
use Rattle.strided_dom.proofs.rounding.raised.Goals as goal

pub returns-then-n-marks : goal.returns-then-n-marks
returns-then-n-marks c =
    let v = to_z-of_z _ _ c.ranges.v in
    rw v (raised_none c.args.marks.now c.requires.sorted c.args.v _ c.count_at_most-n.result (omega (arith, ints, c.requires.in_reach.low, c.requires.in_reach.high)) c.count_at_most-n.ensures c.if-n-marks.true)

pub returns : goal.returns
returns c =
    let fits : SFits w128 (slice_index_or c.args.marks.now c.count_at_most-n.result (pos 0)) = search rules in
    let x = to_z-of_z _ _ fits in
    rw x (raised_at c.args.marks.now c.requires.sorted c.args.v _ (pos 0) c.count_at_most-n.result (omega (arith, ints, c.requires.in_reach.low, c.requires.in_reach.high)) c.count_at_most-n.ensures (omega (arith, c.count_at_most-n.ensures.within)))
