use Rattle.std.proofs.Common.{arith, rules, SFits}
use Rattle.std.specs.Int.{w128}
use Rattle.std.proofs.lemmas.Int.{ints, to_z-of_z}
use Rattle.strided_dom.proofs.Decisions.{not_span_below, apart_spans, span_below_iff}
use Rattle.strided_dom.proofs.sets.are_ends_within.Goals as goal

pub returns-then-not-is_multiple : goal.returns-then-not-is_multiple
returns-then-not-is_multiple c =
    let low : SFits w128 c.args.s.lo = search rules in
    let low' : SFits w128 c.args.t.lo = search rules in
    let e = to_z-of_z _ _ low in
    let e' = to_z-of_z _ _ low' in
    not_span_below _ _ _ _ _ _ (apart_spans c.args.s.lo c.args.s.hi c.args.s.stride c.args.t.lo c.args.t.hi c.args.t.stride c.is_multiple.result c.if-not-is_multiple.true (omega (arith, ints)) (rw (c.abs_diff.ensures, e, e') at c.is_multiple.ensures))

pub returns : goal.returns
returns c =
    let low : SFits w128 c.args.s.lo = search rules in
    let low' : SFits w128 c.args.t.lo = search rules in
    let high : SFits w128 c.args.s.hi = search rules in
    let high' : SFits w128 c.args.t.hi = search rules in
    let e = to_z-of_z _ _ low in
    let e' = to_z-of_z _ _ low' in
    span_below_iff c.args.s.lo c.args.s.hi c.args.s.stride c.args.t.lo c.args.t.hi c.args.t.stride c.is_multiple.result c.is_multiple-2.result c.if-not-is_multiple.false (omega (arith, ints)) (omega (arith, ints)) (rw (c.abs_diff.ensures, e, e') at c.is_multiple.ensures) c.is_multiple-2.ensures
