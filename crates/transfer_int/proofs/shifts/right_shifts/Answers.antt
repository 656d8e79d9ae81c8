use Rattle.tm_cint.specs.declared.operators.BinOp.TheVariants.{Shr}
use Rattle.transfer_int.specs.Rows.{InRows}
use Rattle.transfer_int.proofs.Placing.{some_member}
use Rattle.transfer_int.proofs.RowPairs.{none_fitted, fitted_rows, type_span}
use Rattle.transfer_int.proofs.Shifting.{are_counts, counts_span, right_rows_are, no_left, no_right_counts}
use Rattle.transfer_int.proofs.shifts.right_shifts.Goals as goal

pub returns-then-is_empty : goal.returns-then-is_empty
returns-then-is_empty c = let e = c.is_empty.ensures.0 c.if-is_empty.true in none_fitted c.args.ty _ _ (no_left c.args.ty _ _ e) e

pub returns-then-is_empty-2 : goal.returns-then-is_empty-2
returns-then-is_empty-2 c = let e = c.is_empty-2.ensures.0 c.if-is_empty-2.true in none_fitted c.args.ty _ _ (no_right_counts c.args.ty c.args.a.now _ _ e c.counts-by.ensures) e

pub shr-requires-clause-left : goal.shr-requires-clause-left
shr-requires-clause-left c = type_span _ _ c.requires (some_member _ _ c.is_empty.ensures c.if-is_empty.false) _ c.interval_of.ensures

pub shr-requires-clause-counts : goal.shr-requires-clause-counts
shr-requires-clause-counts c = counts_span _ _ (are_counts _ _ _ c.counts-by.ensures) (some_member _ _ c.is_empty-2.ensures c.if-is_empty-2.false) c.interval_of-2.ensures

pub right_shift_class-requires-clause-right : goal.right_shift_class-requires-clause-right
right_shift_class-requires-clause-right c = are_counts _ _ _ c.counts-by.ensures

pub fitted-requires : goal.fitted-requires
fitted-requires c = record {
  narrow = (right_rows_are c.args.ty _ _ _ c.interval_of.result c.interval_of-2.result c.shr.result c.right_shift_class.result c.requires c.counts-by.ensures (some_member _ _ c.is_empty.ensures c.if-is_empty.false)
      (some_member _ _ c.is_empty-2.ensures c.if-is_empty-2.false) c.interval_of.ensures c.interval_of-2.ensures c.shr.ensures c.right_shift_class.ensures).narrow;
}

pub returns : goal.returns
returns c =
    fitted_rows c.args.ty (InRows Shr c.args.ty c.args.a.now c.args.b.now) c.shr.result c.right_shift_class.result c.fitted.result
    (right_rows_are c.args.ty _ _ _ c.interval_of.result c.interval_of-2.result c.shr.result c.right_shift_class.result c.requires c.counts-by.ensures (some_member _ _ c.is_empty.ensures c.if-is_empty.false)
    (some_member _ _ c.is_empty-2.ensures c.if-is_empty-2.false) c.interval_of.ensures c.interval_of-2.ensures c.shr.ensures c.right_shift_class.ensures) c.fitted.ensures
