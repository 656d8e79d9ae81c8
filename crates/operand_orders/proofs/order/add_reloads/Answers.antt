use Rattle.std.proofs.Common.{◌≤◌, length, subst, arith}
use Rattle.std.proofs.lemmas.List.{take_all}
use Rattle.path_origins.specs.declared.origins.Reload.{Reload}
use Rattle.text_choices.specs.Choices.{Adds, OfKind}
use Rattle.text_choices.specs.declared.kinds.Kind.TheVariants as Kinds
use Rattle.operand_orders.specs.reading.Operands.{IsReloaded, IsOfReloads}
use Rattle.operand_orders.proofs.Places.{places_none, places_more}
use Rattle.operand_orders.proofs.order.add_reloads.Goals as goal

pub loop-reload-init : goal.loop-reload-init
loop-reload-init c =
    places_none (λ (x : Reload). x.place)
    (λ (r : Reload). IsReloaded c.args.touches.now r.load r.right) c.args.choices.now.items

pub loop-reload-preserved : goal.loop-reload-preserved
loop-reload-preserved c =
    places_more (λ (x : Reload). x.place) (λ (r : Reload). IsReloaded c.args.touches.now r.load r.right)
    c.args.reloads.now c.loop-reload.reload-index _ c.loop-reload-test.true
    c.args.choices.now.items c.loop-reload.choices.items c.add_where.new.choices.items c.loop-reload.invariant
    c.is_reloaded-holds.result c.is_reloaded-holds.ensures c.choice_at.result c.choice_at.ensures
    c.in_ok-add_where.ensures

pub returns : goal.returns
returns c =
    let end : length c.args.reloads.now ≤ c.loop-reload.reload-index = omega arith in
    subst (λ xs. Adds c.args.choices.now.items c.loop-reload.choices.items
    (OfKind Kinds.Order (IsOfReloads c.args.touches.now xs)))
    (take_all c.loop-reload.reload-index c.args.reloads.now end) c.loop-reload.invariant
