use Rattle.std.proofs.Common.{◌≤◌, length, subst, arith}
use Rattle.std.proofs.lemmas.List.{take_all}
use Rattle.path_origins.specs.declared.origins.Unsequenced.{Unsequenced}
use Rattle.text_choices.specs.Choices.{Adds, OfKind}
use Rattle.text_choices.specs.declared.kinds.Kind.TheVariants as Kinds
use Rattle.operand_orders.specs.Order.{Matters}
use Rattle.operand_orders.specs.reading.Operands.{IsOfOperands}
use Rattle.operand_orders.specs.reading.Views.{solved}
use Rattle.operand_orders.proofs.Places.{places_none, places_more}
use Rattle.operand_orders.proofs.order.add_operands.Goals as goal

pub loop-pair-init : goal.loop-pair-init
loop-pair-init c =
    places_none (λ (x : Unsequenced). x.place)
    (λ (u : Unsequenced). Matters (solved c.args.view) u.first u.second) c.args.choices.now.items

pub loop-pair-preserved : goal.loop-pair-preserved
loop-pair-preserved c =
    places_more (λ (x : Unsequenced). x.place) (λ (u : Unsequenced). Matters (solved c.args.view) u.first u.second)
    c.args.operands.now c.loop-pair.pair-index _ c.loop-pair-test.true
    c.args.choices.now.items c.loop-pair.choices.items c.add_where.new.choices.items c.loop-pair.invariant
    c.in_ok-holds.holds c.in_ok-holds.ensures c.choice_at.result c.choice_at.ensures c.in_ok-add_where.ensures

pub returns : goal.returns
returns c =
    let end : length c.args.operands.now ≤ c.loop-pair.pair-index = omega arith in
    subst (λ xs. Adds c.args.choices.now.items c.loop-pair.choices.items
    (OfKind Kinds.Order (IsOfOperands (solved c.args.view) xs)))
    (take_all c.loop-pair.pair-index c.args.operands.now end) c.loop-pair.invariant
