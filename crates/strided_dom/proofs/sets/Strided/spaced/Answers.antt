use Rattle.std.proofs.Common.{SFits, rules}
use Rattle.std.specs.Int.{w128}
use Rattle.std.proofs.lemmas.Int.{to_z-of_z}
use Rattle.strided_dom.proofs.Spans.{exactly_up_to}
use Rattle.strided_dom.proofs.sets.Strided.spaced.Goals as goal

pub returns : goal.returns
returns c =
    let low = to_z-of_z _ _ c.ranges.lo in
    let high = to_z-of_z _ _ c.ranges.top in
    let fits : SFits w128 c.last_below.result = search rules in
    let last = to_z-of_z _ _ fits in
    exactly_up_to c.args.lo c.args.top c.last_below.result c.args.stride c.between.result (rw (low, high) at c.last_below.ensures) (rw (low, last) at c.between.ensures)
