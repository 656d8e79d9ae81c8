use Rattle.std.proofs.Common.{arith, SFits, rules}
use Rattle.std.specs.Int.{w128}
use Rattle.std.proofs.lemmas.Int.{ints, clamps, to_z-of_z}
use Rattle.strided_dom.proofs.Spans.{exactly_crossed, exactly_within}
use Rattle.strided_dom.proofs.sets.Strided.range.Goals as goal

pub returns-then-hi-lo : goal.returns-then-hi-lo
returns-then-hi-lo c = exactly_crossed _ _ _ _ (omega (arith, ints)) c.empty.ensures

pub returns : goal.returns
returns c =
    let low = to_z-of_z _ _ c.ranges.lo in
    let high = to_z-of_z _ _ c.ranges.hi in
    let step = to_z-of_z _ _ c.ranges.stride in
    let fits : SFits w128 c.min.result = search rules in
    let top = to_z-of_z _ _ fits in
    exactly_within c.args.lo c.args.hi c.min.result _ c.spaced.result
    (λ v p. omega (arith, ints, clamps, c.min.ensures.value, p.to, (c.requires.in_reach v p).high))
    (omega (arith, ints, clamps, c.min.ensures.value))
    (rw (low, top, c.unsigned_abs.ensures.value, step) at c.spaced.ensures)
