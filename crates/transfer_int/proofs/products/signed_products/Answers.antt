use Rattle.tm_cint.specs.declared.operators.BinOp.TheVariants.{Mul}
use Rattle.transfer_int.specs.Rows.{InRows}
use Rattle.transfer_int.proofs.RowPairs.{fitted_rows}
use Rattle.transfer_int.proofs.products.signed_products.Goals as goal

pub returns : goal.returns
returns c = fitted_rows c.args.ty (InRows Mul c.args.ty c.args.a.now c.args.b.now) _ _ c.fitted.result c.product_rows.ensures c.fitted.ensures
