use Rattle.interval_dom.specs.Rows as I
use Rattle.congruence_dom.specs.Rows as C
use Rattle.transfer_int.proofs.RowPairs.{signed_span, signed_class, narrow_product, row_pair}
use Rattle.transfer_int.proofs.Spans.{some_of}
use Rattle.transfer_int.proofs.products.product_rows.Goals as goal

pub mul-requires-clause-left : goal.mul-requires-clause-left
mul-requires-clause-left c = signed_span c.args.ty c.args.a.now c.requires.left (some_of c.args.a.now c.requires.some_left) c.requires.signed c.interval_of.result c.interval_of.ensures

pub mul-requires-clause-right : goal.mul-requires-clause-right
mul-requires-clause-right c = signed_span c.args.ty c.args.b.now c.requires.right (some_of c.args.b.now c.requires.some_right) c.requires.signed c.interval_of-2.result c.interval_of-2.ensures

pub mul-requires-2-clause-left : goal.mul-requires-2-clause-left
mul-requires-2-clause-left c = signed_class c.args.ty c.args.a.now c.requires.left (some_of c.args.a.now c.requires.some_left) c.requires.signed c.class_of.result c.class_of.ensures

pub mul-requires-2-clause-right : goal.mul-requires-2-clause-right
mul-requires-2-clause-right c = signed_class c.args.ty c.args.b.now c.requires.right (some_of c.args.b.now c.requires.some_right) c.requires.signed c.class_of-2.result c.class_of-2.ensures

pub returns : goal.returns
returns c =
    let left = some_of c.args.a.now c.requires.some_left in
    let right = some_of c.args.b.now c.requires.some_right in
    row_pair I.mul_row C.mul_row c.args.a.now c.args.b.now c.interval_of.result c.interval_of-2.result c.mul.result c.class_of.result c.class_of-2.result c.mul-2.result left right
    c.interval_of.ensures c.interval_of-2.ensures c.mul.ensures c.class_of.ensures c.class_of-2.ensures c.mul-2.ensures
    (narrow_product c.interval_of.result c.interval_of-2.result c.mul.result c.interval_of.result.ordered c.interval_of-2.result.ordered
    (signed_span c.args.ty c.args.a.now c.requires.left left c.requires.signed c.interval_of.result c.interval_of.ensures)
    (signed_span c.args.ty c.args.b.now c.requires.right right c.requires.signed c.interval_of-2.result c.interval_of-2.ensures) c.mul.ensures)
