use Rattle.std.proofs.Common.{◌+◌, ◌-◌, ◌/◌, ◌<◌, length, arith}
use Rattle.access_partners.proofs.Racing.{below_middle, above_middle}
use Rattle.access_partners.proofs.meeting.first_from.Goals as goal

pub loop-low-preserved : goal.loop-low-preserved
loop-low-preserved c =
    let m = c.loop-low.low + (c.loop-low.high - c.loop-low.low) / 2 in
    let i = c.loop-low.invariant in
    let points = c.args.points.now in
    let within : m < length points = omega (arith, i.within) in
    record {
      ordered = omega arith;
      within = omega arith;
      before = i.before;
      after = above_middle points c.requires c.args.cell m within c.if-points-middle.false;
    }

pub loop-low-preserved-then-points-middle : goal.loop-low-preserved-then-points-middle
loop-low-preserved-then-points-middle c =
    let m = c.loop-low.low + (c.loop-low.high - c.loop-low.low) / 2 in
    let i = c.loop-low.invariant in
    let points = c.args.points.now in
    let within : m < length points = omega (arith, i.within) in
    record {
      ordered = omega arith;
      within = i.within;
      before = below_middle points c.requires c.args.cell m within c.if-points-middle.true;
      after = i.after;
    }

pub returns : goal.returns
returns c =
    let i = c.loop-low.invariant in record {
      within = omega (arith, i.within);
      before = i.before;
      after = λ k le lt. i.after k (omega arith) lt;
    }
