use Rattle.interval_dom.specs.Rows as I
use Rattle.congruence_dom.specs.Rows as C
use Rattle.tm_cint.specs.declared.operators.BinOp.TheVariants.{Mul}
use Rattle.transfer_int.specs.Rows.{InRows}
use Rattle.transfer_int.proofs.RowPairs.{no_left, no_right, none_fitted}
use Rattle.transfer_int.proofs.products.products.Goals as goal

pub returns-then-is_empty : goal.returns-then-is_empty
returns-then-is_empty c =
    let e = c.is_empty.ensures.0 c.if-is_empty.true in
    none_fitted c.args.ty (InRows Mul c.args.ty c.args.a.now c.args.b.now) c.args.a.now (no_left I.mul_row C.mul_row c.args.a.now c.args.b.now e) e

pub returns-then-is_empty-2 : goal.returns-then-is_empty-2
returns-then-is_empty-2 c =
    let e = c.is_empty-2.ensures.0 c.if-is_empty-2.true in
    none_fitted c.args.ty (InRows Mul c.args.ty c.args.a.now c.args.b.now) c.args.b.now (no_right I.mul_row C.mul_row c.args.a.now c.args.b.now e) e
