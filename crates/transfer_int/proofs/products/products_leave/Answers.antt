use Rattle.std.proofs.Common.{sym, ◌∙◌}
use Rattle.interval_dom.specs.Rows as I
use Rattle.congruence_dom.specs.Rows as C
use Rattle.tm_cint.specs.declared.operators.BinOp.TheVariants.{Mul}
use Rattle.transfer_int.proofs.Excluding.{never}
use Rattle.transfer_int.proofs.RowPairs.{no_left, no_right, none_leaves, leaving_rows}
use Rattle.transfer_int.proofs.products.products_leave.Goals as goal

pub returns-then-is_empty : goal.returns-then-is_empty
returns-then-is_empty c = never (none_leaves Mul c.args.ty c.args.a.now c.args.b.now (no_left I.mul_row C.mul_row c.args.a.now c.args.b.now (c.is_empty.ensures.0 c.if-is_empty.true)))

pub returns-then-is_empty-2 : goal.returns-then-is_empty-2
returns-then-is_empty-2 c = never (none_leaves Mul c.args.ty c.args.a.now c.args.b.now (no_right I.mul_row C.mul_row c.args.a.now c.args.b.now (c.is_empty-2.ensures.0 c.if-is_empty-2.true)))

pub returns : goal.returns
returns c = leaving_rows Mul c.args.ty c.args.a.now c.args.b.now _ _ c.leaves.result (sym c.signed.ensures ∙ c.if-not-signed.false) c.product_rows.ensures c.leaves.ensures
