use Rattle.std.proofs.Common.{◌≡◌, length, sym, subst, ◌∙◌, arith}
use Rattle.text_choices.specs.Choices.{Adds}
use Rattle.operand_orders.specs.Reached.{operation_at, origin_at}
use Rattle.operand_orders.specs.reading.Views.{solved}
use Rattle.open_choices.specs.reading.Enumerated.{enumerated_look_of}
use Rattle.open_choices.specs.reading.Found.{IsCountedAt, IsOfEdge, IsEnumeratedAt, IsOfNumber}
use Rattle.open_choices.proofs.ChoiceLists.{added_nothing, added_number, number_none}
use Rattle.open_choices.proofs.Enumerated.{all_counted, same_look}
use Rattle.open_choices.proofs.edges.add_enumerations.Goals as goal

pub loop-edge-init : goal.loop-edge-init
loop-edge-init c =
    let Opens = IsEnumeratedAt (solved c.args.view) in
    added_nothing (IsOfNumber Opens 0) (IsOfNumber Opens 0) c.args.choices.now.items (number_none Opens)

pub add_at_edge-requires-clause-counted : goal.add_at_edge-requires-clause-counted
add_at_edge-requires-clause-counted c =
    let b = solved c.args.view in
    let edge = c.loop-edge.edge in
    let same = same_look b edge c.origin.result c.operation.result c.enumerated_look_of-look.result c.origin.ensures
    c.operation.ensures c.enumerated_look_of-look.ensures in
    subst (IsCountedAt b edge) (sym same) (all_counted b edge)

pub loop-edge-preserved : goal.loop-edge-preserved
loop-edge-preserved c =
    let b = solved c.args.view in
    let edge = c.loop-edge.edge in
    let same = same_look b edge c.origin.result c.operation.result c.enumerated_look_of-look.result c.origin.ensures
    c.operation.ensures c.enumerated_look_of-look.ensures in
    added_number (IsEnumeratedAt b) c.args.choices.now.items c.loop-edge.choices.items
    c.add_at_edge.new.choices.items edge c.loop-edge.invariant
    (subst (λ look. Adds c.loop-edge.choices.items c.add_at_edge.new.choices.items (IsOfEdge b edge look)) same
    c.in_ok-add_at_edge.ensures)

pub returns : goal.returns
returns c =
    let end : c.loop-edge.edge ≡ length c.args.view.edges.now = omega arith in
    subst (λ n. Adds c.args.choices.now.items c.loop-edge.choices.items
    (IsOfNumber (IsEnumeratedAt (solved c.args.view)) n)) end c.loop-edge.invariant
