use Rattle.std.proofs.Common.{◌≡◌, ◌≤◌, ◌%◌, ◌^◌, ◌+ℤ◌, pos, arith}
use Rattle.std.proofs.lemmas.Int.{ints}
use Rattle.strided_dom.specs.Progression.{IsInReach}
use Rattle.strided_dom.proofs.Reach.{kept, kept_stride, reach_between}
use Rattle.strided_dom.proofs.Thresholds.{class_flat, class_by_rest}
use Rattle.strided_dom.proofs.rounding.first_above.Goals as goal

pub returns-then-stride-eq0 : goal.returns-then-stride-eq0
returns-then-stride-eq0 c = rw (kept c.requires.lo_reach) (class_flat c.args.low c.args.lo c.args.stride c.if-stride-eq0.true c.requires.ordered)

pub returns : goal.returns
returns c =
    let d = rw (kept c.requires.lo_reach, kept c.requires.low_reach) at c.abs_diff.ensures in
    let lo_is : c.args.lo ≡ c.args.low +ℤ pos c.abs_diff.result = omega (arith, ints, d, c.requires.ordered) in
    let small : c.abs_diff.result % c.args.stride ≤ 2 ^ 101 = omega (arith, ints, lo_is, c.requires.low_reach.low, c.requires.lo_reach.high) in
    let reach : IsInReach (c.args.low +ℤ pos (c.abs_diff.result % c.args.stride)) = reach_between c.requires.low_reach c.requires.lo_reach (omega (arith, ints)) (omega (arith, ints, lo_is)) in
    rw (kept c.requires.low_reach, kept_stride small, kept reach) (class_by_rest c.args.low c.args.lo c.args.stride c.abs_diff.result (omega arith) lo_is)
