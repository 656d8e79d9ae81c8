use Rattle.text_choices.specs.Choices.{Adds}
use Rattle.operand_orders.specs.reading.Views.{solved}
use Rattle.open_choices.specs.reading.Found.{IsOpenAt, IsOfNumber}
use Rattle.open_choices.proofs.edges.add_at_edges.Given as goal

abbrev pub invariant-loop-edge : goal.invariant-loop-edge
invariant-loop-edge l =
    Adds l.initial.choices.items l.choices.items (IsOfNumber (IsOpenAt (solved l.view)) l.edge)
