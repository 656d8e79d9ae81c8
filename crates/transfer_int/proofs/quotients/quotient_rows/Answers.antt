use Rattle.transfer_int.proofs.Dividing.{quotient_rows_are}
use Rattle.transfer_int.proofs.Inside.{none_in}
use Rattle.transfer_int.proofs.Spans.{not_empty_from}
use Rattle.transfer_int.proofs.quotients.quotient_rows.Goals as goal

pub returns-then-is_empty : goal.returns-then-is_empty
returns-then-is_empty c = λ v h. none_in _ _ (c.is_empty.ensures.0 c.if-is_empty.true) h.between.low_is.in_left

pub quotient_class-requires-clause-some_right : goal.quotient_class-requires-clause-some_right
quotient_class-requires-clause-some_right c = not_empty_from _ _ c.in-Some.ensures.least.member.in_right.member

pub returns-in-None : goal.returns-in-None
returns-in-None c = λ v h. c.in-None.ensures h.between.low h.between.low_is

pub returns-in-Some : goal.returns-in-Some
returns-in-Some c = quotient_rows_are c.args.ty _ _ _ _ c.requires.left c.in-Some.ensures c.quotient_class.ensures
