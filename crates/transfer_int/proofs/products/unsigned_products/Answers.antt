use Rattle.std.proofs.Common.{◌%◌, to_z, subst, sym}
use Rattle.std.specs.Int.{w128}
use Rattle.interval_dom.specs.Rows as I
use Rattle.interval_dom.specs.Interval.{span_of, span_of_unsigned}
use Rattle.congruence_dom.specs.Rows as C
use Rattle.congruence_dom.specs.Class.{class_of_unsigned}
use Rattle.tm_cint.specs.IntTypes.{IsIn}
use Rattle.transfer_int.specs.Operands.{span_of_set, class_of_set}
use Rattle.transfer_int.proofs.RowPairs.{unsigned_span, unsigned_class, same_row}
use Rattle.transfer_int.proofs.Spans.{some_of}
use Rattle.transfer_int.proofs.UnsignedProducts.{steps, products_exactly, rest_kept, rest_in}
use Rattle.transfer_int.proofs.products.unsigned_products.Goals as goal

pub mul_u-span-requires-clause-left : goal.mul_u-span-requires-clause-left
mul_u-span-requires-clause-left c = unsigned_span c.args.ty c.args.a.now c.requires.left (some_of c.args.a.now c.requires.some_left) c.requires.unsigned c.interval_of.result c.interval_of.ensures

pub mul_u-span-requires-clause-right : goal.mul_u-span-requires-clause-right
mul_u-span-requires-clause-right c = unsigned_span c.args.ty c.args.b.now c.requires.right (some_of c.args.b.now c.requires.some_right) c.requires.unsigned c.interval_of-2.result c.interval_of-2.ensures

pub mul_u-class-requires-clause-left : goal.mul_u-class-requires-clause-left
mul_u-class-requires-clause-left c = unsigned_class c.args.ty c.args.a.now c.requires.left (some_of c.args.a.now c.requires.some_left) c.requires.unsigned c.class_of.result c.class_of.ensures

pub mul_u-class-requires-clause-right : goal.mul_u-class-requires-clause-right
mul_u-class-requires-clause-right c = unsigned_class c.args.ty c.args.b.now c.requires.right (some_of c.args.b.now c.requires.some_right) c.requires.unsigned c.class_of-2.result c.class_of-2.ensures

pub placed-requires-clause-congruent : goal.placed-requires-clause-congruent
placed-requires-clause-congruent c =
    steps c.args.ty c.args.a.now c.args.b.now c.requires.left c.requires.right (some_of c.args.a.now c.requires.some_left) (some_of c.args.b.now c.requires.some_right) c.requires.unsigned
    c.mul_u-span.result c.mul_u-class.result
    (same_row I.mul_row (span_of c.interval_of.result) (span_of c.interval_of-2.result) (span_of_unsigned c.mul_u-span.result) (span_of_set c.args.a.now) (span_of_set c.args.b.now) c.interval_of.ensures c.interval_of-2.ensures c.mul_u-span.ensures)
    (same_row C.mul_row c.class_of.result c.class_of-2.result (class_of_unsigned c.mul_u-class.result) (class_of_set c.args.a.now) (class_of_set c.args.b.now) c.class_of.ensures c.class_of-2.ensures c.mul_u-class.ensures)
    c.mul_u-span.result.ordered

pub placed-requires-clause-in_type : goal.placed-requires-clause-in_type
placed-requires-clause-in_type c =
    subst (λ n. IsIn c.args.ty (to_z w128 (c.mul_u-span.result.lo % n))) (sym c.size.ensures)
    (rw (rest_kept c.args.ty c.mul_u-span.result.lo) (rest_in c.args.ty c.mul_u-span.result.lo c.requires.unsigned))

pub returns : goal.returns
returns c =
    products_exactly c.args.ty c.args.a.now c.args.b.now c.requires.left c.requires.right (some_of c.args.a.now c.requires.some_left) (some_of c.args.b.now c.requires.some_right) c.requires.unsigned
    c.mul_u-span.result c.mul_u-class.result
    (same_row I.mul_row (span_of c.interval_of.result) (span_of c.interval_of-2.result) (span_of_unsigned c.mul_u-span.result) (span_of_set c.args.a.now) (span_of_set c.args.b.now) c.interval_of.ensures c.interval_of-2.ensures c.mul_u-span.ensures)
    (same_row C.mul_row c.class_of.result c.class_of-2.result (class_of_unsigned c.mul_u-class.result) (class_of_set c.args.a.now) (class_of_set c.args.b.now) c.class_of.ensures c.class_of-2.ensures c.mul_u-class.ensures)
    _ c.placed.result c.mul_u-span.result.ordered (rw c.size.ensures (rest_kept c.args.ty c.mul_u-span.result.lo)) c.placed.ensures
