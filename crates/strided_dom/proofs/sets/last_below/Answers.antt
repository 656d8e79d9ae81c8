use Rattle.std.proofs.Common.{◌≡◌, ◌-ℤ◌, nat_abs, arith}
use Rattle.std.proofs.lemmas.Int.{ints, to_z-of_z}
use Rattle.strided_dom.proofs.Spans.{last_flat, last_by_rest}
use Rattle.strided_dom.proofs.sets.last_below.Goals as goal

pub returns-then-stride-eq0 : goal.returns-then-stride-eq0
returns-then-stride-eq0 c = rw (to_z-of_z _ _ c.ranges.lo) (last_flat c.args.lo c.args.top c.args.stride c.if-stride-eq0.true c.requires.ordered)

pub returns : goal.returns
returns c =
    let low = to_z-of_z _ _ c.ranges.lo in
    let high = to_z-of_z _ _ c.ranges.top in
    let d : c.abs_diff.result ≡ nat_abs (c.args.top -ℤ c.args.lo) = rw (high, low) at c.abs_diff.ensures in
    rw d (last_by_rest c.args.lo c.args.top _ c.args.stride (omega arith) c.requires.ordered (omega (arith, ints, c.requires.low.low, c.requires.high.high)))
