use Rattle.strided_dom.proofs.Reach.{kept}
use Rattle.transfer_int.proofs.Dividing.{divisors_side, quotients_least, no_divisors}
use Rattle.transfer_int.proofs.Placing.{some_member}
use Rattle.transfer_int.proofs.RowPairs.{type_span}
use Rattle.transfer_int.proofs.Spans.{part_values, some_of}
use Rattle.transfer_int.proofs.quotients.quotients_by.Goals as goal

pub returns-then-is_empty : goal.returns-then-is_empty
returns-then-is_empty c =
    no_divisors _ _ _ _ _ (c.is_empty.ensures.0 c.if-is_empty.true) (rw (kept c.requires.low, kept c.requires.high) at c.part-divisors.ensures)

pub div-requires-clause-left : goal.div-requires-clause-left
div-requires-clause-left c = type_span _ _ c.requires.left (some_of _ c.requires.some) _ c.interval_of.ensures

pub div-requires-clause-right : goal.div-requires-clause-right
div-requires-clause-right c =
    type_span c.args.ty _ (part_values _ _ _ _ _ c.requires.right c.part-divisors.ensures) (some_member _ _ c.is_empty.ensures c.if-is_empty.false) _ c.interval_of-2.ensures

pub div-requires-clause-side : goal.div-requires-clause-side
div-requires-clause-side c =
    divisors_side _ _ _ _ _ (rw (kept c.requires.low, kept c.requires.high) at c.part-divisors.ensures) (some_member _ _ c.is_empty.ensures c.if-is_empty.false) c.requires.side c.interval_of-2.ensures

pub returns : goal.returns
returns c =
    quotients_least _ _ _ _ _ _ _ _ (some_of _ c.requires.some) (some_member _ _ c.is_empty.ensures c.if-is_empty.false)
    (rw (kept c.requires.low, kept c.requires.high) at c.part-divisors.ensures) c.requires.side c.interval_of.ensures c.interval_of-2.ensures c.div.ensures
