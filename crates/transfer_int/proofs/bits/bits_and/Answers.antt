use Rattle.std.proofs.Common.{◌∙◌, sym, refl}
use Rattle.interval_dom.specs.Rows.{and_row}
use Rattle.transfer_int.proofs.BitSets.{and_of_ones, and_anything, and_is, and_guard, row_of_sets, of_rows}
use Rattle.transfer_int.proofs.Inside.{none_in}
use Rattle.transfer_int.proofs.RowPairs.{none_fitted, type_span}
use Rattle.transfer_int.proofs.Placing.{some_member}
use Rattle.transfer_int.proofs.bits.bits_and.Goals as goal

pub returns-then-is_empty : goal.returns-then-is_empty
returns-then-is_empty c = let e = c.is_empty.ensures.0 c.if-is_empty.true in none_fitted _ _ _ (λ v h. none_in _ _ e h.bits.left) e

pub returns-then-is_empty-2 : goal.returns-then-is_empty-2
returns-then-is_empty-2 c = let e = c.is_empty-2.ensures.0 c.if-is_empty-2.true in none_fitted _ _ _ (λ v h. none_in _ _ e h.bits.right) e

pub returns-then-are_single : goal.returns-then-are_single
returns-then-are_single c =
    let p = some_member _ _ c.is_empty.ensures c.if-is_empty.false in
    let q = some_member _ _ c.is_empty-2.ensures c.if-is_empty-2.false in
    and_of_ones _ _ _ c.requires.left p q c.requires.right _ (sym c.are_single.ensures ∙ c.if-are_single.true) (c.exact.ensures _ refl)

pub returns-then-not-has_natural : goal.returns-then-not-has_natural
returns-then-not-has_natural c =
    let p = some_member _ _ c.is_empty.ensures c.if-is_empty.false in
    let q = some_member _ _ c.is_empty-2.ensures c.if-is_empty-2.false in
    let many = sym c.are_single.ensures ∙ c.if-are_single.false in
    let some = sym c.has_natural.ensures ∙ c.if-not-has_natural.true in
    of_rows c.args.ty _ _ _ (λ v. (and_anything _ _ _ p q many v some, λ h. h.bits.in_type)) (λ v h. h.bits.in_type) c.all_values.ensures

pub and-requires-clause-left : goal.and-requires-clause-left
and-requires-clause-left c = type_span _ _ c.requires.left (some_member _ _ c.is_empty.ensures c.if-is_empty.false) _ c.interval_of.ensures

pub and-requires-clause-right : goal.and-requires-clause-right
and-requires-clause-right c = type_span _ _ c.requires.right (some_member _ _ c.is_empty-2.ensures c.if-is_empty-2.false) _ c.interval_of-2.ensures

pub and-requires-clause-guard : goal.and-requires-clause-guard
and-requires-clause-guard c = and_guard _ _ _ _ c.interval_of.ensures c.interval_of-2.ensures (sym c.has_natural.ensures ∙ c.if-not-has_natural.false)

pub numbers-requires : goal.numbers-requires
numbers-requires c = λ v h.
    let p = some_member _ _ c.is_empty.ensures c.if-is_empty.false in
    let q = some_member _ _ c.is_empty-2.ensures c.if-is_empty-2.false in
    let many = sym c.are_single.ensures ∙ c.if-are_single.false in
    ((and_is _ _ _ p q many _ c.requires.left c.requires.right (row_of_sets _ _ _ _ c.interval_of.ensures c.interval_of-2.ensures and_row _ c.and.ensures) v).0 h).bits.in_type

pub returns : goal.returns
returns c =
    let p = some_member _ _ c.is_empty.ensures c.if-is_empty.false in
    let q = some_member _ _ c.is_empty-2.ensures c.if-is_empty-2.false in
    let many = sym c.are_single.ensures ∙ c.if-are_single.false in
    of_rows c.args.ty _ _ _ (λ v. and_is _ _ _ p q many _ c.requires.left c.requires.right (row_of_sets _ _ _ _ c.interval_of.ensures c.interval_of-2.ensures and_row _ c.and.ensures) v) (λ v h. h.bits.in_type) c.numbers.ensures
