use Rattle.std.proofs.Common.{◌≡◌, arith, ap, of_z}
use Rattle.std.specs.Int.{w128}
use Rattle.std.proofs.lemmas.Int.{ints, to_z-of_z}
use Rattle.strided_dom.specs.declared.sets.Strided.TheInside.{Inside}
use Rattle.strided_dom.proofs.Kept.{kept_from, exactly_from_fields, exactly_single}
use Rattle.strided_dom.proofs.sets.Strided.between.Goals as goal

pub returns-then-lo-hi : goal.returns-then-lo-hi
returns-then-lo-hi c =
    let same : c.args.lo ≡ c.args.hi = omega (arith, ints) in
    let low = to_z-of_z _ _ c.ranges.lo in
    rw (c.one.ensures, low) (exactly_single c.args.lo c.args.hi c.args.stride same)

pub invariant_of-result : goal.invariant_of-result
invariant_of-result c =
    let low = to_z-of_z _ _ c.ranges.lo in
    let high = to_z-of_z _ _ c.ranges.hi in
    rw (low, high) (kept_from record { lo = c.args.lo; hi = c.args.hi; stride = c.args.stride } c.requires.low c.requires.high c.requires.ordered c.requires.congruent (λ e. absurd (c.if-lo-hi.false (ap (of_z w128) e))))

pub returns : goal.returns
returns c =
    let low = to_z-of_z _ _ c.ranges.lo in
    let high = to_z-of_z _ _ c.ranges.hi in
    let fields : Inside = record { lo = c.args.lo; hi = c.args.hi; stride = c.args.stride } in
    rw (low, high) (exactly_from_fields fields (kept_from fields c.requires.low c.requires.high c.requires.ordered c.requires.congruent (λ e. absurd (c.if-lo-hi.false (ap (of_z w128) e)))) c.requires.ordered)
