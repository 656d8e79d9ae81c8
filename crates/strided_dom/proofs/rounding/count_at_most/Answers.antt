use Rattle.std.proofs.Common.{◌+◌, ◌-◌, ◌/◌, ◌<◌, ◌≤ℤ◌, ◌<ℤ◌, pos, slice_index_or, length, arith, SFits, rules}
use Rattle.std.specs.Int.{w128}
use Rattle.std.proofs.lemmas.Int.{ints, to_z-of_z}
use Rattle.strided_dom.proofs.Thresholds.{marks_after, marks_before}
use Rattle.strided_dom.proofs.rounding.count_at_most.Goals as goal

pub loop-low-preserved : goal.loop-low-preserved
loop-low-preserved c =
    let m = c.loop-low.low + (c.loop-low.high - c.loop-low.low) / 2 in
    let i = c.loop-low.invariant in
    let in_list : m < length c.args.marks.now = omega (arith, i.within) in
    let v = to_z-of_z _ _ c.ranges.v in
    let fits : SFits w128 (slice_index_or c.args.marks.now m (pos 0)) = search rules in
    let x = to_z-of_z _ _ fits in
    let test = rw (v, x) at c.if-marks-middle.false in
    let above : c.args.v <ℤ slice_index_or c.args.marks.now m (pos 0) = omega (arith, ints, test) in
    record {
      ordered = omega arith;
      within = omega arith;
      before = i.before;
      after = rw v (marks_after c.args.marks.now c.requires c.args.v (pos 0) m above);
    }

pub loop-low-preserved-then-marks-middle : goal.loop-low-preserved-then-marks-middle
loop-low-preserved-then-marks-middle c =
    let m = c.loop-low.low + (c.loop-low.high - c.loop-low.low) / 2 in
    let i = c.loop-low.invariant in
    let in_list : m < length c.args.marks.now = omega (arith, i.within) in
    let v = to_z-of_z _ _ c.ranges.v in
    let fits : SFits w128 (slice_index_or c.args.marks.now m (pos 0)) = search rules in
    let x = to_z-of_z _ _ fits in
    let test = rw (v, x) at c.if-marks-middle.true in
    let under : slice_index_or c.args.marks.now m (pos 0) ≤ℤ c.args.v = omega (arith, ints, test) in
    record {
      ordered = omega arith;
      within = i.within;
      before = rw v (marks_before c.args.marks.now c.requires c.args.v (pos 0) m in_list under);
      after = i.after;
    }

pub returns : goal.returns
returns c =
    let i = c.loop-low.invariant in
    let v = to_z-of_z _ _ c.ranges.v in
    record {
      within = omega (arith, i.within);
      before = rw v at i.before;
      after = λ k d le lt. (rw v at i.after) k d (omega arith) lt;
    }
