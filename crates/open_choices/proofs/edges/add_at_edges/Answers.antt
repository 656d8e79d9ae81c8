use Rattle.std.proofs.Common.{◌≡◌, length, sym, ap, subst, ◌∙◌, arith}
use Rattle.text_choices.specs.Choices.{Adds}
use Rattle.operand_orders.specs.reading.Views.{solved}
use Rattle.open_choices.specs.reading.Looks.{look_of}
use Rattle.open_choices.specs.reading.Found.{IsCountedAt, IsOfEdge, IsOpenAt, IsOfNumber}
use Rattle.open_choices.proofs.ChoiceLists.{added_nothing, added_number, number_none}
use Rattle.open_choices.proofs.edges.add_at_edges.Goals as goal

pub loop-edge-init : goal.loop-edge-init
loop-edge-init c =
    let Opens = IsOpenAt (solved c.args.view) in
    added_nothing (IsOfNumber Opens 0) (IsOfNumber Opens 0) c.args.choices.now.items (number_none Opens)

pub add_at_edge-requires-clause-counted : goal.add_at_edge-requires-clause-counted
add_at_edge-requires-clause-counted c =
    subst (IsCountedAt (solved c.args.view) c.loop-edge.edge)
    (sym (c.look_of-look.ensures ∙ ap look_of c.operation.ensures)) (c.requires.counted.each c.loop-edge.edge)

pub loop-edge-preserved : goal.loop-edge-preserved
loop-edge-preserved c =
    let b = solved c.args.view in
    let edge = c.loop-edge.edge in
    let same = c.look_of-look.ensures ∙ ap look_of c.operation.ensures in
    added_number (IsOpenAt b) c.args.choices.now.items c.loop-edge.choices.items c.add_at_edge.new.choices.items edge
    c.loop-edge.invariant
    (subst (λ look. Adds c.loop-edge.choices.items c.add_at_edge.new.choices.items (IsOfEdge b edge look)) same
    c.in_ok-add_at_edge.ensures)

pub returns : goal.returns
returns c =
    let end : c.loop-edge.edge ≡ length c.args.view.edges.now = omega arith in
    subst (λ n. Adds c.args.choices.now.items c.loop-edge.choices.items (IsOfNumber (IsOpenAt (solved c.args.view)) n))
    end c.loop-edge.invariant
