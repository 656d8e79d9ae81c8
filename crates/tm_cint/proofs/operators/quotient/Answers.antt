use Rattle.std.proofs.Common.{◌≡◌, false}
use Rattle.std.specs.Int.{w128}
use Rattle.std.specs.Int.RustNames.{FitsSigned, int_div}
use Rattle.std.proofs.lemmas.Int.{to_z-of_z}
use Rattle.tm_cint.specs.Conversions.{is_zero}
use Rattle.tm_cint.proofs.Wide.{wide, quotient_fits, nonzero}
use Rattle.tm_cint.proofs.operators.quotient.Goals as goal

pub returns-else-b-eq0 : goal.returns-else-b-eq0
returns-else-b-eq0 c =
    let a : FitsSigned w128 c.args.a = c.ranges.a in
    let b : FitsSigned w128 c.args.b = c.ranges.b in
    let fits : FitsSigned w128 (int_div c.args.a c.args.b) = quotient_fits _ c.args.b (wide _ _ c.requires.left) in
    let not_zero : is_zero c.args.b ≡ false = nonzero c.args.b b c.if-b-eq0.false in
    rw not_zero (simp to_z-of_z at c.fitted.ensures)
