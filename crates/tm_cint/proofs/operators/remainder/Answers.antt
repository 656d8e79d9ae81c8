use Rattle.std.proofs.Common.{◌≡◌, Bool, true, false, IsTrue}
use Rattle.std.specs.Int.{w128}
use Rattle.std.specs.Int.RustNames.{FitsSigned, int_div, int_rem}
use Rattle.std.proofs.lemmas.Int.{to_z-of_z}
use Rattle.tm_cint.specs.IntTypes.{IsIn, is_in}
use Rattle.tm_cint.specs.Conversions.{is_zero}
use Rattle.tm_cint.proofs.Wide.{wide, quotient_fits, remainder_fits, nonzero}
use Rattle.tm_cint.proofs.Ranges.{is_in-true, is_in-false}
use Rattle.tm_cint.proofs.operators.remainder.Goals as goal

not_true : {r : Bool} → r ≡ false → IsTrue r → ⊥
not_true e h = cc

pub returns-then-holds : goal.returns-then-holds
returns-then-holds c =
    let a : FitsSigned w128 c.args.a = c.ranges.a in
    let b : FitsSigned w128 c.args.b = c.ranges.b in
    let fits : FitsSigned w128 (int_div c.args.a c.args.b) = quotient_fits _ c.args.b (wide _ _ c.requires.left) in
    let rest_fits : FitsSigned w128 (int_rem c.args.a c.args.b) = remainder_fits c.args.a c.args.b a in
    let not_zero : is_zero c.args.b ≡ false = nonzero c.args.b b c.if-b-eq0.false in
    let holds : is_in c.args.ty (int_div c.args.a c.args.b) ≡ true = is_in-true _ _ ((simp to_z-of_z at c.holds.ensures).0 c.if-holds.true) in
    simp (not_zero, holds, to_z-of_z)

pub returns-else-holds : goal.returns-else-holds
returns-else-holds c =
    let a : FitsSigned w128 c.args.a = c.ranges.a in
    let b : FitsSigned w128 c.args.b = c.ranges.b in
    let fits : FitsSigned w128 (int_div c.args.a c.args.b) = quotient_fits _ c.args.b (wide _ _ c.requires.left) in
    let not_zero : is_zero c.args.b ≡ false = nonzero c.args.b b c.if-b-eq0.false in
    let out : is_in c.args.ty (int_div c.args.a c.args.b) ≡ false = is_in-false _ _ (λ (h : IsIn c.args.ty (int_div c.args.a c.args.b)). not_true c.if-holds.false ((simp to_z-of_z at c.holds.ensures).1 h)) in
    simp (not_zero, out)
