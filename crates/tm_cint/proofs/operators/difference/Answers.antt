use Rattle.std.proofs.Common.{◌-ℤ◌}
use Rattle.std.specs.Int.{w128}
use Rattle.std.specs.Int.RustNames.{FitsSigned}
use Rattle.std.proofs.lemmas.Int.{to_z-of_z}
use Rattle.tm_cint.proofs.Wide.{wide, difference_fits}
use Rattle.tm_cint.proofs.operators.difference.Goals as goal

pub returns : goal.returns
returns c =
    let a : FitsSigned w128 c.args.a = c.ranges.a in
    let b : FitsSigned w128 c.args.b = c.ranges.b in
    let fits : FitsSigned w128 (c.args.a -ℤ c.args.b) = difference_fits _ _ (wide _ _ c.requires.left) (wide _ _ c.requires.right) in
    simp to_z-of_z at c.fitted.ensures
