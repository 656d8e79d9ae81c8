use Rattle.std.proofs.Common.{ap, sym, refl, ◌∙◌, to_z, nat_abs}
use Rattle.std.specs.Int.{w128}
use Rattle.std.proofs.lemmas.Int.{to_z-of_z}
use Rattle.congruence_dom.specs.Rows.{shr_row}
use Rattle.tm_numbers.specs.Powers.{power}
use Rattle.strided_dom.proofs.Reach.{kept}
use Rattle.transfer_int.proofs.RowPairs.{type_class}
use Rattle.transfer_int.proofs.Shifting.{right_by_many, right_undivided, right_by_one, divides_class, same_class_row}
use Rattle.transfer_int.proofs.Spans.{some_of}
use Rattle.transfer_int.proofs.shifts.right_shift_class.Goals as goal

pub returns-then-lo-hi : goal.returns-then-lo-hi
returns-then-lo-hi c =
    right_by_many _ _ (some_of _ c.requires.some_right) c.requires.right _ c.all_integers.ensures (λ e. c.if-lo-hi.true (rw (c.lo.ensures.value, c.hi.ensures.value, e)))

pub is_common_divisor-requires : goal.is_common_divisor-requires
is_common_divisor-requires c = type_class _ _ c.requires.left (some_of _ c.requires.some_left) _ c.class_of-class.ensures

pub returns-then-not-is_common_divisor : goal.returns-then-not-is_common_divisor
returns-then-not-is_common_divisor c =
    right_undivided _ _ (some_of _ c.requires.some_right) c.requires.right _ _ _ _ c.all_integers-then-not-is_common_divisor.ensures (to_z-of_z w128 _ (record { sfits = c.power_of_two.type_inv }) ∙ c.power_of_two.ensures ∙ ap (λ x. power (nat_abs x)) (kept c.lo-count.ensures.in_reach ∙ c.lo-count.ensures.value)) c.class_of-class.ensures c.is_common_divisor.ensures
    c.if-not-is_common_divisor.true

pub shr-requires-clause-class : goal.shr-requires-clause-class
shr-requires-clause-class c = type_class _ _ c.requires.left (some_of _ c.requires.some_left) _ c.class_of-class.ensures

pub shr-requires-clause-divides : goal.shr-requires-clause-divides
shr-requires-clause-divides c =
    divides_class _ _ _ _ (to_z-of_z w128 _ (record { sfits = c.power_of_two.type_inv }) ∙ c.power_of_two.ensures) refl (c.is_common_divisor.ensures.0 c.if-not-is_common_divisor.false)

pub returns : goal.returns
returns c =
    let same = rw (kept c.lo.ensures.in_reach, kept c.hi.ensures.in_reach) at (ap (to_z w128) c.if-lo-hi.false) in
    right_by_one _ _ (some_of _ c.requires.some_right) c.requires.right _
    (same_class_row shr_row _ _ _ _ _ c.shr.ensures c.class_of-class.ensures (ap nat_abs (kept c.lo-count.ensures.in_reach ∙ c.lo-count.ensures.value)))
    (sym c.lo.ensures.value ∙ same ∙ c.hi.ensures.value) (divides_class _ _ _ _ (to_z-of_z w128 _ (record { sfits = c.power_of_two.type_inv }) ∙ c.power_of_two.ensures ∙ ap (λ x. power (nat_abs x)) (kept c.lo-count.ensures.in_reach ∙ c.lo-count.ensures.value)) c.class_of-class.ensures (c.is_common_divisor.ensures.0 c.if-not-is_common_divisor.false))
