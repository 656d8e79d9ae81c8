use Rattle.std.proofs.Common.{SFits, rules}
use Rattle.std.specs.Int.{w128}
use Rattle.std.proofs.lemmas.Int.{to_z-of_z}
use Rattle.strided_dom.proofs.Hulls.{span_from_of, span_low, span_high}
use Rattle.strided_dom.proofs.Reach.{kept}
use Rattle.strided_dom.proofs.Thresholds.{rounding_empty, rounding_is}
use Rattle.strided_dom.proofs.sets.Strided.round.Goals as goal

pub round_ends-requires-clause-ends : goal.round_ends-requires-clause-ends
round_ends-requires-clause-ends c = span_from_of _ _ _ _ c.in-Some.ensures

pub returns-in-None : goal.returns-in-None
returns-in-None c = rounding_empty c.args.marks.now c.args.self.now c.in-None.ensures

pub returns-in-Some : goal.returns-in-Some
returns-in-Some c =
    let low : SFits w128 c.lowered.result = search rules in
    let high : SFits w128 c.raised.result = search rules in
    let l = to_z-of_z _ _ low in
    let h = to_z-of_z _ _ high in
    let down = rw (c.ends-ends.ensures.value, kept (span_low c.in-Some.ensures)) at c.lowered.ensures in
    let up = rw (c.ends-ends.ensures.value, kept (span_high c.in-Some.ensures)) at c.raised.ensures in
    let exact = rw (l, h) at c.round_ends.ensures in
    rounding_is c.args.marks.now c.args.self.now c.round_ends.result _ _ c.lowered.result c.raised.result _ c.in-Some.ensures down up exact
