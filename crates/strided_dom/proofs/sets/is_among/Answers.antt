use Rattle.std.proofs.Common.{arith, rules, SFits}
use Rattle.std.specs.Int.{w128}
use Rattle.std.proofs.lemmas.Int.{ints, to_z-of_z}
use Rattle.strided_dom.proofs.Decisions.{outside, inside_iff}
use Rattle.strided_dom.proofs.sets.is_among.Goals as goal

pub returns-then-v-s : goal.returns-then-v-s
returns-then-v-s c =
    let low : SFits w128 c.args.s.lo = search rules in
    outside _ _ _ _ (λ p. omega (arith, ints, p.from))

pub returns-then-s-v : goal.returns-then-s-v
returns-then-s-v c =
    let high : SFits w128 c.args.s.hi = search rules in
    outside _ _ _ _ (λ p. omega (arith, ints, p.to))

pub returns : goal.returns
returns c =
    let low : SFits w128 c.args.s.lo = search rules in
    let high : SFits w128 c.args.s.hi = search rules in
    let e = to_z-of_z _ _ low in
    let f = to_z-of_z _ _ c.ranges.v in
    inside_iff c.args.s.lo c.args.s.hi c.args.s.stride c.args.v c.is_multiple.result (omega (arith, ints)) (omega (arith, ints)) (rw (c.abs_diff.ensures, e, f) at c.is_multiple.ensures)
