use Rattle.std.proofs.Common.{◌*ℤ◌, ◌≡◌, true, sym, ◌∙◌}
use Rattle.std.specs.Int.{w128}
use Rattle.std.specs.Int.RustNames.{FitsSigned}
use Rattle.std.proofs.lemmas.Int.{to_z-of_z}
use Rattle.tm_cint.specs.IntTypes.{is_signed}
use Rattle.tm_cint.proofs.Wide.{product_fits}
use Rattle.tm_cint.proofs.operators.product.Goals as goal

pub returns-then-signed : goal.returns-then-signed
returns-then-signed c =
    let a : FitsSigned w128 c.args.a = c.ranges.a in
    let b : FitsSigned w128 c.args.b = c.ranges.b in
    let signed : is_signed c.args.ty ≡ true = sym c.signed.ensures ∙ c.if-signed.true in
    let fits : FitsSigned w128 (c.args.a *ℤ c.args.b) = product_fits _ _ _ signed c.requires.left c.requires.right in
    simp to_z-of_z at c.fitted.ensures
