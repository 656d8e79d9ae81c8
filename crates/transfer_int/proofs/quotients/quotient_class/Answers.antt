use Rattle.std.proofs.Common.{ap, subst, ◌∙◌, to_z}
use Rattle.std.specs.Int.{w128}
use Rattle.congruence_dom.specs.Rows.{div_row}
use Rattle.strided_dom.proofs.Reach.{kept}
use Rattle.transfer_int.specs.reading.Quotients.{IsCommonDivisor}
use Rattle.transfer_int.proofs.Dividing.{by_many, by_one_divisor, not_one_number, not_this_divisor, one_number}
use Rattle.transfer_int.proofs.RowPairs.{type_class}
use Rattle.transfer_int.proofs.Spans.{some_of}
use Rattle.transfer_int.proofs.quotients.quotient_class.Goals as goal

pub returns-then-divisor-hi : goal.returns-then-divisor-hi
returns-then-divisor-hi c =
    by_many _ _ _ c.all_integers.ensures (not_one_number _ _ _ _ c.lo-divisor.ensures.value c.hi.ensures.value (λ e. c.if-divisor-hi.true (rw e)))

pub is_common_divisor-requires : goal.is_common_divisor-requires
is_common_divisor-requires c = type_class _ _ c.requires.left (some_of _ c.requires.some_left) _ c.class_of-class.ensures

pub returns-then-not-is_common_divisor : goal.returns-then-not-is_common_divisor
returns-then-not-is_common_divisor c =
    by_many _ _ _ c.all_integers-then-not-is_common_divisor.ensures
    (not_this_divisor _ _ _ _ _ c.lo-divisor.ensures.value c.class_of-class.ensures (rw (kept c.lo-divisor.ensures.in_reach) at c.is_common_divisor.ensures) c.if-not-is_common_divisor.true)

pub div-requires-clause-class : goal.div-requires-clause-class
div-requires-clause-class c = type_class _ _ c.requires.left (some_of _ c.requires.some_left) _ c.class_of-class.ensures

pub returns : goal.returns
returns c =
    let same = rw (kept c.lo-divisor.ensures.in_reach, kept c.hi.ensures.in_reach) at (ap (to_z w128) c.if-divisor-hi.false) in
    let one = one_number _ _ _ (some_of _ c.requires.some_right) c.lo-divisor.ensures.value c.hi.ensures.value same in
    let divisor = (rw (kept c.lo-divisor.ensures.in_reach) at c.is_common_divisor.ensures).0 c.if-not-is_common_divisor.false in
    by_one_divisor _ _ _ _ one (subst (λ x. IsCommonDivisor c.lo-divisor.result x) c.class_of-class.ensures divisor)
    ((rw (kept c.lo-divisor.ensures.in_reach) at c.div.ensures) ∙ ap (λ x. div_row x c.lo-divisor.result) c.class_of-class.ensures)
