use Rattle.std.proofs.Common.{FitsSigned, arith}
use Rattle.std.specs.Int.{w128}
use Rattle.std.proofs.lemmas.Int.{ints}
use Rattle.interval_dom.proofs.Floors.{shift_rises}
use Rattle.interval_dom.proofs.Ranges.{lo_fits, hi_fits, shifted_back}
use Rattle.interval_dom.proofs.shifts.shl.Goals as goal

pub invariant_of-result : goal.invariant_of-result
invariant_of-result c =
    let nl : FitsSigned w128 c.args.n.lo = omega (arith, ints) in
    let nh : FitsSigned w128 c.args.n.hi = omega (arith, ints) in
    let low = shifted_back _ _ _ (lo_fits c.args.a c.requires.left) nl c.shifted_left.ensures in
    let high = shifted_back _ _ _ (hi_fits c.args.a c.requires.left) nh c.shifted_left-2.ensures in
    let rises = shift_rises c.args.a.lo c.args.a.hi c.args.n.lo c.args.n.hi c.requires.not_negative c.requires.counts.low c.args.a.ordered c.args.n.ordered in
    record { ordered = omega (arith, ints) }
