use Rattle.std.proofs.Common.{◌≤◌, length, pos, ap, sym, subst, ◌∙◌, arith}
use Rattle.std.specs.FinMap as map
use Rattle.operand_orders.specs.reading.Views.{solved}
use Rattle.open_choices.proofs.Entries.{IsClosed, leads, led}
use Rattle.open_choices.proofs.Searching.{is_found, not_found, not_so, none_yet, none_more, none_of_all, one_found}
use Rattle.open_choices.proofs.uses.leads_out.Goals as goal

pub loop-object-init : goal.loop-object-init
loop-object-init c = none_yet (IsClosed (solved c.args.view) c.args.edge) c.entries-object-items.result.now

pub returns-then-not-is_open : goal.returns-then-not-is_open
returns-then-not-is_open c =
    let p = c.args.pointers.now in
    let items = c.entries-object-items.result.now in
    let whole = c.entries-object-items.ensures ∙ ap map.entries c.objects.ensures.value in
    is_found (leads p items whole (solved c.args.view) c.args.edge c.objects.ensures.within (one_found (IsClosed
    (solved c.args.view) c.args.edge) items c.loop-object.object-index c.loop-object-item.result c.loop-object-test.true
    c.loop-object-item.is (not_so c.is_open.result c.is_open.ensures c.if-not-is_open.true)))

pub loop-object-preserved : goal.loop-object-preserved
loop-object-preserved c =
    none_more (IsClosed (solved c.args.view) c.args.edge) c.entries-object-items.result.now c.loop-object.object-index
    c.loop-object-item.result
    c.loop-object-test.true c.loop-object-item.is c.loop-object.invariant (λ closed. closed (c.is_open.ensures.0
    c.if-not-is_open.false))

pub returns : goal.returns
returns c =
    let p = c.args.pointers.now in
    let items = c.entries-object-items.result.now in
    let whole = c.entries-object-items.ensures ∙ ap map.entries c.objects.ensures.value in
    let end : length items ≤ c.loop-object.object-index = omega arith in
    not_found (λ h. none_of_all (IsClosed (solved c.args.view) c.args.edge) items c.loop-object.object-index end
    c.loop-object.invariant (led p items whole (solved c.args.view) c.args.edge h))
