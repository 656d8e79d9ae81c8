use Rattle.std.proofs.Common.{◌≡◌, pos, ◌-ℤ◌, arith}
use Rattle.std.proofs.lemmas.Int.{ints, to_z-of_z}
use Rattle.transfer_int.proofs.Fitted.{up_to_residue, at_residue, past_residue}
use Rattle.transfer_int.proofs.fittings.distance_up.Goals as goal

pub returns-then-lo-residue-clause-congruent : goal.returns-then-lo-residue-clause-congruent
returns-then-lo-residue-clause-congruent c =
    let d : pos c.abs_diff.result ≡ c.args.residue -ℤ c.args.lo = omega (arith, ints, to_z-of_z _ _ c.ranges.lo, to_z-of_z _ _ c.ranges.residue, c.abs_diff.ensures, c.if-lo-residue.true) in
    up_to_residue c.args.lo c.args.residue c.args.step c.abs_diff.result c.requires d

pub returns-then-rest-eq0-clause-congruent : goal.returns-then-rest-eq0-clause-congruent
returns-then-rest-eq0-clause-congruent c =
    let d : pos c.abs_diff.result ≡ c.args.lo -ℤ c.args.residue = omega (arith, ints, to_z-of_z _ _ c.ranges.lo, to_z-of_z _ _ c.ranges.residue, c.abs_diff.ensures, c.if-lo-residue.false) in
    at_residue c.args.lo c.args.residue c.args.step c.abs_diff.result c.requires d c.if-rest-eq0.true

pub returns-clause-congruent : goal.returns-clause-congruent
returns-clause-congruent c =
    let d : pos c.abs_diff.result ≡ c.args.lo -ℤ c.args.residue = omega (arith, ints, to_z-of_z _ _ c.ranges.lo, to_z-of_z _ _ c.ranges.residue, c.abs_diff.ensures, c.if-lo-residue.false) in
    past_residue c.args.lo c.args.residue c.args.step c.abs_diff.result c.requires d
