use Rattle.std.proofs.Common.{ap, sym, ◌∙◌, to_z, nat_abs}
use Rattle.std.specs.Int.{w128}
use Rattle.strided_dom.proofs.Reach.{kept}
use Rattle.congruence_dom.specs.Rows.{shl_row, shl_from_row}
use Rattle.transfer_int.proofs.RowPairs.{type_class}
use Rattle.transfer_int.proofs.Shifting.{from_many, from_one, same_class_row}
use Rattle.transfer_int.proofs.Spans.{some_of}
use Rattle.transfer_int.proofs.shifts.left_shift_class.Goals as goal

pub shl-requires-clause-class : goal.shl-requires-clause-class
shl-requires-clause-class c = type_class _ _ c.requires.left (some_of _ c.requires.some_left) _ c.class_of.ensures

pub shl_from-requires-clause-class : goal.shl_from-requires-clause-class
shl_from-requires-clause-class c = type_class _ _ c.requires.left (some_of _ c.requires.some_left) _ c.class_of-2.ensures

pub returns-then-lo-hi : goal.returns-then-lo-hi
returns-then-lo-hi c =
    let same = rw (kept c.lo.ensures.in_reach, kept c.hi.ensures.in_reach) at (ap (to_z w128) c.if-lo-hi.true) in
    from_one _ _ (some_of _ c.requires.some_left) (some_of _ c.requires.some_right) c.requires.right _
    (same_class_row shl_row _ _ _ _ _ c.shl.ensures c.class_of.ensures (ap nat_abs (kept c.lo-least.ensures.in_reach ∙ c.lo-least.ensures.value)))
    (sym c.lo.ensures.value ∙ same ∙ c.hi.ensures.value)

pub returns : goal.returns
returns c =
    from_many _ _ (some_of _ c.requires.some_left) (some_of _ c.requires.some_right) c.requires.right _
    (same_class_row shl_from_row _ _ _ _ _ c.shl_from.ensures c.class_of-2.ensures (ap nat_abs (kept c.lo-least.ensures.in_reach ∙ c.lo-least.ensures.value)))
    (λ e. c.if-lo-hi.false (rw (c.lo.ensures.value, c.hi.ensures.value, e)))
