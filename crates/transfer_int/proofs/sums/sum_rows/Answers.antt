use Rattle.interval_dom.specs.Rows as I
use Rattle.congruence_dom.specs.Rows as C
use Rattle.transfer_int.proofs.Placing.{some_member}
use Rattle.transfer_int.proofs.RowPairs.{no_left, no_right, type_span, type_class, narrow_sum, row_pair}
use Rattle.transfer_int.proofs.sums.sum_rows.Goals as goal

pub returns-then-is_empty : goal.returns-then-is_empty
returns-then-is_empty c = no_left I.add_row C.add_row c.args.a.now c.args.b.now (c.is_empty.ensures.0 c.if-is_empty.true)

pub returns-then-is_empty-2 : goal.returns-then-is_empty-2
returns-then-is_empty-2 c = no_right I.add_row C.add_row c.args.a.now c.args.b.now (c.is_empty-2.ensures.0 c.if-is_empty-2.true)

pub add-requires-clause-left : goal.add-requires-clause-left
add-requires-clause-left c = type_span c.args.ty c.args.a.now c.requires.left (some_member c.args.a.now c.is_empty.result c.is_empty.ensures c.if-is_empty.false) c.interval_of.result c.interval_of.ensures

pub add-requires-clause-right : goal.add-requires-clause-right
add-requires-clause-right c = type_span c.args.ty c.args.b.now c.requires.right (some_member c.args.b.now c.is_empty-2.result c.is_empty-2.ensures c.if-is_empty-2.false) c.interval_of-2.result c.interval_of-2.ensures

pub add-requires-2-clause-left : goal.add-requires-2-clause-left
add-requires-2-clause-left c = type_class c.args.ty c.args.a.now c.requires.left (some_member c.args.a.now c.is_empty.result c.is_empty.ensures c.if-is_empty.false) c.class_of.result c.class_of.ensures

pub add-requires-2-clause-right : goal.add-requires-2-clause-right
add-requires-2-clause-right c = type_class c.args.ty c.args.b.now c.requires.right (some_member c.args.b.now c.is_empty-2.result c.is_empty-2.ensures c.if-is_empty-2.false) c.class_of-2.result c.class_of-2.ensures

pub returns : goal.returns
returns c =
    let left = some_member c.args.a.now c.is_empty.result c.is_empty.ensures c.if-is_empty.false in
    let right = some_member c.args.b.now c.is_empty-2.result c.is_empty-2.ensures c.if-is_empty-2.false in
    row_pair I.add_row C.add_row c.args.a.now c.args.b.now c.interval_of.result c.interval_of-2.result c.add.result c.class_of.result c.class_of-2.result c.add-2.result left right
    c.interval_of.ensures c.interval_of-2.ensures c.add.ensures c.class_of.ensures c.class_of-2.ensures c.add-2.ensures
    (narrow_sum c.interval_of.result c.interval_of-2.result c.add.result (type_span c.args.ty c.args.a.now c.requires.left left c.interval_of.result c.interval_of.ensures)
    (type_span c.args.ty c.args.b.now c.requires.right right c.interval_of-2.result c.interval_of-2.ensures) c.add.ensures)
