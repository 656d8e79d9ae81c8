use Rattle.std.proofs.Common.{◌≤◌, length, ap, ◌∙◌, arith}
use Rattle.std.specs.FinMap as map
use Rattle.strided_dom.specs.Progression.{Has}
use Rattle.operand_orders.specs.reading.Views.{solved}
use Rattle.open_choices.proofs.Entries.{IsLeaving, moves, moved}
use Rattle.open_choices.proofs.Searching.{is_found, not_found, not_so, none_yet, none_more, none_of_all, one_found}
use Rattle.open_choices.proofs.members.moves_away.Goals as goal

pub loop-object-init : goal.loop-object-init
loop-object-init c = none_yet (IsLeaving (solved c.args.view) c.args.target (Has c.args.steps.now))
    c.entries-object-items.result.now

pub returns-then-leaves : goal.returns-then-leaves
returns-then-leaves c =
    let p = c.args.pointers.now in
    let items = c.entries-object-items.result.now in
    let whole = c.entries-object-items.ensures ∙ ap map.entries c.objects.ensures.value in
    is_found (moves p items whole (solved c.args.view) c.args.target (Has c.args.steps.now) (one_found (IsLeaving
    (solved c.args.view) c.args.target (Has c.args.steps.now)) items c.loop-object.object-index
    c.loop-object-item.result c.loop-object-test.true
    c.loop-object-item.is (c.in_ok-leaves.ensures.0 c.if-leaves.true)))

pub loop-object-preserved : goal.loop-object-preserved
loop-object-preserved c =
    none_more (IsLeaving (solved c.args.view) c.args.target (Has c.args.steps.now)) c.entries-object-items.result.now
    c.loop-object.object-index c.loop-object-item.result
    c.loop-object-test.true c.loop-object-item.is c.loop-object.invariant (not_so _ c.in_ok-leaves.ensures
    c.if-leaves.false)

pub returns : goal.returns
returns c =
    let p = c.args.pointers.now in
    let items = c.entries-object-items.result.now in
    let whole = c.entries-object-items.ensures ∙ ap map.entries c.objects.ensures.value in
    let end : length items ≤ c.loop-object.object-index = omega arith in
    not_found (λ h. none_of_all (IsLeaving (solved c.args.view) c.args.target (Has c.args.steps.now)) items
    c.loop-object.object-index end c.loop-object.invariant (moved p items whole (solved c.args.view) c.args.target (Has
    c.args.steps.now) h))
