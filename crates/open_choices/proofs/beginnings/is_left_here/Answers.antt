use Rattle.std.proofs.Common.{◌≤◌, length, get_or, ap, sym, subst, ◌∙◌, arith}
use Rattle.std.proofs.lemmas.List.{get_or_default}
use Rattle.operand_orders.specs.Reached.{operation_at}
use Rattle.operand_orders.specs.access_races.reading.Ways.{HasOne}
use Rattle.operand_orders.specs.reading.Views.{solved}
use Rattle.open_choices.specs.reading.Left.{address_of, IsHeldBehind}
use Rattle.open_choices.proofs.Leftover.{behind_here, here_behind}
use Rattle.open_choices.proofs.Searching.{is_found, not_found, not_so, none_yet, none_more, none_of_all, one_found}
use Rattle.open_choices.proofs.beginnings.is_left_here.Goals as goal

pub loop-copy-init : goal.loop-copy-init
loop-copy-init c =
    none_yet (IsHeldBehind (solved c.args.view) c.args.life c.address_of-own.result) c.copies_of-copy-items.result.now

pub returns-then-branch : goal.returns-then-branch
returns-then-branch c =
    let b = solved c.args.view in
    let life = c.args.life in
    let xs = c.copies_of-copy-items.result.now in
    let i = c.loop-copy.copy-index in
    let own = c.address_of-own.ensures ∙ ap address_of c.operation.ensures in
    let one = one_found (IsHeldBehind b life c.address_of-own.result) xs i (get_or xs i 0) c.loop-copy-test.true
    (get_or_default xs i 0 (get_or xs i 0) c.loop-copy-test.true)
    (c.in_ok-is_held_behind.ensures.0 c.if-branch.true) in
    is_found (behind_here b life xs c.copies_of-copy-items.ensures
    (subst (λ o. HasOne (IsHeldBehind b life o) xs) own one))

pub loop-copy-preserved : goal.loop-copy-preserved
loop-copy-preserved c =
    let xs = c.copies_of-copy-items.result.now in
    let i = c.loop-copy.copy-index in
    none_more (IsHeldBehind (solved c.args.view) c.args.life c.address_of-own.result) xs i (get_or xs i 0)
    c.loop-copy-test.true (get_or_default xs i 0 (get_or xs i 0) c.loop-copy-test.true) c.loop-copy.invariant
    (not_so _ c.in_ok-is_held_behind.ensures c.if-branch.false)

pub returns : goal.returns
returns c =
    let b = solved c.args.view in
    let life = c.args.life in
    let xs = c.copies_of-copy-items.result.now in
    let own = c.address_of-own.ensures ∙ ap address_of c.operation.ensures in
    let end : length xs ≤ c.loop-copy.copy-index = omega arith in
    not_found (λ h. none_of_all (IsHeldBehind b life c.address_of-own.result) xs c.loop-copy.copy-index end
    c.loop-copy.invariant (subst (λ o. HasOne (IsHeldBehind b life o) xs) (sym own)
    (here_behind b life xs c.copies_of-copy-items.ensures h)))
