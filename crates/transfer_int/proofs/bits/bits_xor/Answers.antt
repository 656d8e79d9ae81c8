use Rattle.std.proofs.Common.{◌∙◌, sym, refl, pos, arith, bit_xor}
use Rattle.std.proofs.lemmas.Int.{ints}
use Rattle.interval_dom.specs.Rows.{xor_row}
use Rattle.transfer_int.proofs.BitSets.{xor_of_ones, or_anything, or_is, xor_guard, row_of_sets, of_rows}
use Rattle.transfer_int.proofs.Inside.{none_in}
use Rattle.transfer_int.proofs.RowPairs.{none_fitted, type_span}
use Rattle.transfer_int.proofs.Placing.{some_member}
use Rattle.transfer_int.proofs.bits.bits_xor.Goals as goal

pub returns-then-is_empty : goal.returns-then-is_empty
returns-then-is_empty c = let e = c.is_empty.ensures.0 c.if-is_empty.true in none_fitted _ _ _ (λ v h. none_in _ _ e h.bits.left) e

pub returns-then-is_empty-2 : goal.returns-then-is_empty-2
returns-then-is_empty-2 c = let e = c.is_empty-2.ensures.0 c.if-is_empty-2.true in none_fitted _ _ _ (λ v h. none_in _ _ e h.bits.right) e

pub returns-then-are_single : goal.returns-then-are_single
returns-then-are_single c =
    let p = some_member _ _ c.is_empty.ensures c.if-is_empty.false in
    let q = some_member _ _ c.is_empty-2.ensures c.if-is_empty-2.false in
    xor_of_ones _ _ _ c.requires.left p q c.requires.right _ (sym c.are_single.ensures ∙ c.if-are_single.true) (c.exact.ensures _ refl)

pub returns-then-not-are_natural : goal.returns-then-not-are_natural
returns-then-not-are_natural c =
    let p = some_member _ _ c.is_empty.ensures c.if-is_empty.false in
    let q = some_member _ _ c.is_empty-2.ensures c.if-is_empty-2.false in
    let many = sym c.are_single.ensures ∙ c.if-are_single.false in
    let some = sym c.are_natural.ensures ∙ c.if-not-are_natural.true in
    of_rows c.args.ty _ _ _ (λ v. (or_anything _ _ _ p q many bit_xor _ v some, λ h. h.bits.in_type)) (λ v h. h.bits.in_type) c.all_values.ensures

pub xor-requires-clause-left : goal.xor-requires-clause-left
xor-requires-clause-left c = type_span _ _ c.requires.left (some_member _ _ c.is_empty.ensures c.if-is_empty.false) _ c.interval_of.ensures

pub xor-requires-clause-right : goal.xor-requires-clause-right
xor-requires-clause-right c = type_span _ _ c.requires.right (some_member _ _ c.is_empty-2.ensures c.if-is_empty-2.false) _ c.interval_of-2.ensures

pub xor-requires-clause-guard : goal.xor-requires-clause-guard
xor-requires-clause-guard c = xor_guard _ _ _ _ c.interval_of.ensures c.interval_of-2.ensures (sym c.are_natural.ensures ∙ c.if-not-are_natural.false)

pub numbers-requires : goal.numbers-requires
numbers-requires c = λ v h.
    let p = some_member _ _ c.is_empty.ensures c.if-is_empty.false in
    let q = some_member _ _ c.is_empty-2.ensures c.if-is_empty-2.false in
    let many = sym c.are_single.ensures ∙ c.if-are_single.false in
    ((or_is _ _ _ p q many bit_xor (pos 0) _ _ c.requires.left c.requires.right (omega (arith, ints)) (row_of_sets _ _ _ _ c.interval_of.ensures c.interval_of-2.ensures xor_row _ c.xor.ensures) v).0 h).bits.in_type

pub returns : goal.returns
returns c =
    let p = some_member _ _ c.is_empty.ensures c.if-is_empty.false in
    let q = some_member _ _ c.is_empty-2.ensures c.if-is_empty-2.false in
    let many = sym c.are_single.ensures ∙ c.if-are_single.false in
    of_rows c.args.ty _ _ _ (λ v. or_is _ _ _ p q many bit_xor (pos 0) _ _ c.requires.left c.requires.right (omega (arith, ints)) (row_of_sets _ _ _ _ c.interval_of.ensures c.interval_of-2.ensures xor_row _ c.xor.ensures) v) (λ v h. h.bits.in_type) c.numbers.ensures
