use Rattle.std.proofs.Common.{List, subst}
use Rattle.std.proofs.lemmas.Result.{on_ok_weaker}
use Rattle.path_origins.specs.declared.origins.Unsequenced.{Unsequenced}
use Rattle.path_origins.specs.declared.origins.Reload.{Reload}
use Rattle.path_origins.specs.declared.origins.Overwrite.{Overwrite}
use Rattle.text_choices.specs.Choices.{Adds, OfKind}
use Rattle.text_choices.specs.declared.kinds.Kind.TheVariants as Kinds
use Rattle.operand_orders.specs.reading.Operands.{IsOfOperands, IsOfReloads, IsOfOverwrites}
use Rattle.operand_orders.specs.reading.Views.{solved}
use Rattle.operand_orders.proofs.Pairing.{order_is}
use Rattle.operand_orders.proofs.Places.{all_places, kinds_is}
use Rattle.operand_orders.proofs.order.add_order.Goals as goal

pub returns : goal.returns
returns c =
    let b = solved c.args.view in
    let t = c.in_ok-touches.touches in
    let old = c.args.choices.now.items in
    let one = c.add_operands.new.choices.items in
    let two = c.add_reloads.new.choices.items in
    let three = c.add_overwrites.new.choices.items in
    let first = subst (λ (xs : List Unsequenced). Adds old one (OfKind Kinds.Order (IsOfOperands b xs)))
    c.as_slice-operands.ensures.value c.in_ok-add_operands.ensures in
    let second = subst (λ (xs : List Reload). Adds one two (OfKind Kinds.Order (IsOfReloads t xs)))
    c.as_slice-reloads.ensures.value c.in_ok-add_reloads.ensures in
    on_ok_weaker c.add_overwrites.result
    (λ h. all_places old one two three first second
    (subst (λ (xs : List Overwrite). Adds two three (OfKind Kinds.Order (IsOfOverwrites t xs)))
    c.as_slice-overwrites.ensures.value h)
    (kinds_is _ _ _ _ (order_is b t c.in_ok-touches.ensures))) c.add_overwrites.ensures
