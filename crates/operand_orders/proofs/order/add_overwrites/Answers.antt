use Rattle.std.proofs.Common.{◌≤◌, length, subst, arith}
use Rattle.std.proofs.lemmas.List.{take_all}
use Rattle.path_origins.specs.declared.origins.Overwrite.{Overwrite}
use Rattle.text_choices.specs.Choices.{Adds, OfKind}
use Rattle.text_choices.specs.declared.kinds.Kind.TheVariants as Kinds
use Rattle.operand_orders.specs.reading.Operands.{IsOverwritten, IsOfOverwrites}
use Rattle.operand_orders.proofs.Places.{places_none, places_more}
use Rattle.operand_orders.proofs.order.add_overwrites.Goals as goal

pub loop-overwrite-init : goal.loop-overwrite-init
loop-overwrite-init c =
    places_none (λ (x : Overwrite). x.place)
    (λ (o : Overwrite). IsOverwritten c.args.touches.now o.store o.earlier) c.args.choices.now.items

pub loop-overwrite-preserved : goal.loop-overwrite-preserved
loop-overwrite-preserved c =
    places_more (λ (x : Overwrite). x.place) (λ (o : Overwrite). IsOverwritten c.args.touches.now o.store o.earlier)
    c.args.overwrites.now c.loop-overwrite.overwrite-index _ c.loop-overwrite-test.true
    c.args.choices.now.items c.loop-overwrite.choices.items c.add_where.new.choices.items c.loop-overwrite.invariant
    c.is_overwritten-holds.result c.is_overwritten-holds.ensures c.choice_at.result c.choice_at.ensures
    c.in_ok-add_where.ensures

pub returns : goal.returns
returns c =
    let end : length c.args.overwrites.now ≤ c.loop-overwrite.overwrite-index = omega arith in
    subst (λ xs. Adds c.args.choices.now.items c.loop-overwrite.choices.items
    (OfKind Kinds.Order (IsOfOverwrites c.args.touches.now xs)))
    (take_all c.loop-overwrite.overwrite-index c.args.overwrites.now end) c.loop-overwrite.invariant
