use Rattle.std.proofs.Common.{pos, subst, arith, SFits, rules, slice_index_or, ◌-◌}
use Rattle.std.specs.Int.{w128}
use Rattle.std.proofs.lemmas.Int.{to_z-of_z}
use Rattle.strided_dom.specs.reading.Classes.{IsSplitAt}
use Rattle.strided_dom.proofs.Thresholds.{lowered_none, lowered_at}
use Rattle.strided_dom.proofs.rounding.lowered.Goals as goal

pub returns-then-n-eq0 : goal.returns-then-n-eq0
returns-then-n-eq0 c =
    let v = to_z-of_z _ _ c.ranges.v in
    let split = rw v at c.count_at_most-n.ensures in
    rw v (lowered_none c.args.marks.now c.requires c.args.v (subst (IsSplitAt c.args.marks.now c.args.v) c.if-n-eq0.true split))

pub returns : goal.returns
returns c =
    let v = to_z-of_z _ _ c.ranges.v in
    let split = rw v at c.count_at_most-n.ensures in
    let fits : SFits w128 (slice_index_or c.args.marks.now (c.count_at_most-n.result - 1) (pos 0)) = search rules in
    let x = to_z-of_z _ _ fits in
    rw x (lowered_at c.args.marks.now c.requires c.args.v (pos 0) c.count_at_most-n.result split (omega arith))
