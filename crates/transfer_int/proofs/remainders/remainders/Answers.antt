use Rattle.tm_cint.specs.declared.operators.BinOp.TheVariants.{Rem}
use Rattle.interval_dom.specs.Rows as I
use Rattle.congruence_dom.specs.Rows as C
use Rattle.transfer_int.specs.Rows.{InRows}
use Rattle.transfer_int.proofs.Inside.{none_in}
use Rattle.transfer_int.proofs.Placing.{some_member}
use Rattle.transfer_int.proofs.Reducing.{no_divisor, all_remain, remainder_rows, span_divisor, narrow_remainders}
use Rattle.transfer_int.proofs.RowPairs.{none_fitted, fitted_rows, row_pair, type_span, type_class}
use Rattle.transfer_int.proofs.Spans.{not_empty_from}
use Rattle.strided_dom.proofs.Members.{some_from}
use Rattle.transfer_int.proofs.remainders.remainders.Goals as goal

pub returns-then-is_empty : goal.returns-then-is_empty
returns-then-is_empty c = let e = c.is_empty.ensures.0 c.if-is_empty.true in none_fitted _ _ _ (λ v h. none_in _ _ e h.rows.left) e

pub returns-then-not-has_divisor : goal.returns-then-not-has_divisor
returns-then-not-has_divisor c = none_fitted _ _ _ (no_divisor c.args.a.now _ _ c.has_divisor.ensures c.if-not-has_divisor.true) c.empty.ensures

pub returns-then-are_smaller : goal.returns-then-are_smaller
returns-then-are_smaller c = all_remain _ _ _ c.requires.left (c.has_divisor.ensures.0 c.if-not-has_divisor.false) (c.are_smaller.ensures.0 c.if-are_smaller.true)

pub interval_of-requires-2 : goal.interval_of-requires-2
interval_of-requires-2 c = let d = c.has_divisor.ensures.0 c.if-not-has_divisor.false in not_empty_from _ _ d.1.member

pub class_of-requires-2 : goal.class_of-requires-2
class_of-requires-2 c = let d = c.has_divisor.ensures.0 c.if-not-has_divisor.false in not_empty_from _ _ d.1.member

pub rem-requires-clause-left : goal.rem-requires-clause-left
rem-requires-clause-left c = type_span _ _ c.requires.left (some_member _ _ c.is_empty.ensures c.if-is_empty.false) _ c.interval_of.ensures

pub rem-requires-clause-right : goal.rem-requires-clause-right
rem-requires-clause-right c =
    let d = c.has_divisor.ensures.0 c.if-not-has_divisor.false in
    type_span _ _ c.requires.right (some_from _ _ d.1.member) _ c.interval_of-2.ensures

pub rem-requires-clause-divisor : goal.rem-requires-clause-divisor
rem-requires-clause-divisor c = span_divisor _ _ c.interval_of-2.ensures (c.has_divisor.ensures.0 c.if-not-has_divisor.false)

pub rem-requires-2-clause-left : goal.rem-requires-2-clause-left
rem-requires-2-clause-left c = type_class _ _ c.requires.left (some_member _ _ c.is_empty.ensures c.if-is_empty.false) _ c.class_of.ensures

pub rem-requires-2-clause-right : goal.rem-requires-2-clause-right
rem-requires-2-clause-right c =
    let d = c.has_divisor.ensures.0 c.if-not-has_divisor.false in
    type_class _ _ c.requires.right (some_from _ _ d.1.member) _ c.class_of-2.ensures

pub fitted-requires : goal.fitted-requires
fitted-requires c =
    let q = some_from _ _ (c.has_divisor.ensures.0 c.if-not-has_divisor.false).1.member in
    record { narrow = narrow_remainders c.interval_of.result c.interval_of-2.result c.rem.result (type_span _ _ c.requires.right q _ c.interval_of-2.ensures) c.rem.ensures }

pub returns : goal.returns
returns c =
    let d = c.has_divisor.ensures.0 c.if-not-has_divisor.false in
    let q = some_from _ _ d.1.member in
    let n = narrow_remainders c.interval_of.result c.interval_of-2.result c.rem.result (type_span _ _ c.requires.right q _ c.interval_of-2.ensures) c.rem.ensures in
    let pair = row_pair I.rem_row C.rem_row _ _ c.interval_of.result c.interval_of-2.result c.rem.result _ _ _ (some_member _ _ c.is_empty.ensures c.if-is_empty.false) q
    c.interval_of.ensures c.interval_of-2.ensures c.rem.ensures c.class_of.ensures c.class_of-2.ensures c.rem-2.ensures n in
    fitted_rows c.args.ty (InRows Rem c.args.ty c.args.a.now c.args.b.now) c.rem.result c.rem-2.result c.fitted.result
    (remainder_rows _ _ _ _ _ pair d c.are_smaller.ensures c.if-are_smaller.false) c.fitted.ensures
