use Rattle.transfer_int.proofs.Placing.{some_member}
use Rattle.transfer_int.proofs.RowPairs.{type_span}
use Rattle.transfer_int.proofs.Shifting.{are_counts, counts_span, natural_values, naturals_low, left_rows_are, no_naturals, no_counts}
use Rattle.transfer_int.proofs.shifts.left_shift_rows.Goals as goal

pub returns-then-is_empty : goal.returns-then-is_empty
returns-then-is_empty c = no_naturals c.args.ty _ _ _ (c.is_empty.ensures.0 c.if-is_empty.true) c.naturals-numbers.ensures

pub returns-then-is_empty-2 : goal.returns-then-is_empty-2
returns-then-is_empty-2 c = no_counts c.args.ty _ _ _ (c.is_empty-2.ensures.0 c.if-is_empty-2.true) c.counts-by.ensures

pub shl-requires-clause-left : goal.shl-requires-clause-left
shl-requires-clause-left c =
    type_span _ _ (natural_values _ _ _ c.requires c.naturals-numbers.ensures) (some_member _ _ c.is_empty.ensures c.if-is_empty.false) _ c.interval_of.ensures

pub shl-requires-clause-counts : goal.shl-requires-clause-counts
shl-requires-clause-counts c = counts_span _ _ (are_counts _ _ _ c.counts-by.ensures) (some_member _ _ c.is_empty-2.ensures c.if-is_empty-2.false) c.interval_of-2.ensures

pub shl-requires-clause-not_negative : goal.shl-requires-clause-not_negative
shl-requires-clause-not_negative c = naturals_low _ _ c.interval_of.result c.naturals-numbers.ensures (some_member _ _ c.is_empty.ensures c.if-is_empty.false) c.interval_of.ensures

pub left_shift_class-requires-clause-left : goal.left_shift_class-requires-clause-left
left_shift_class-requires-clause-left c = natural_values _ _ _ c.requires c.naturals-numbers.ensures

pub left_shift_class-requires-clause-right : goal.left_shift_class-requires-clause-right
left_shift_class-requires-clause-right c = are_counts _ _ _ c.counts-by.ensures

pub returns : goal.returns
returns c =
    left_rows_are c.args.ty _ _ _ _ c.interval_of.result c.interval_of-2.result c.shl.result c.left_shift_class.result c.requires c.naturals-numbers.ensures c.counts-by.ensures
    (some_member _ _ c.is_empty.ensures c.if-is_empty.false) (some_member _ _ c.is_empty-2.ensures c.if-is_empty-2.false) c.interval_of.ensures c.interval_of-2.ensures c.shl.ensures
    c.left_shift_class.ensures
