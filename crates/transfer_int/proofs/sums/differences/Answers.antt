use Rattle.tm_cint.specs.declared.operators.BinOp.TheVariants.{Sub}
use Rattle.transfer_int.specs.Rows.{InRows}
use Rattle.transfer_int.proofs.RowPairs.{none_fitted, fitted_rows}
use Rattle.transfer_int.proofs.sums.differences.Goals as goal

pub returns-in-None : goal.returns-in-None
returns-in-None c = none_fitted c.args.ty (InRows Sub c.args.ty c.args.a.now c.args.b.now) c.empty.result c.in-None.ensures c.empty.ensures

pub returns-in-Some : goal.returns-in-Some
returns-in-Some c = fitted_rows c.args.ty (InRows Sub c.args.ty c.args.a.now c.args.b.now) c.in-Some.span c.in-Some.class c.fitted.result c.in-Some.ensures c.fitted.ensures
