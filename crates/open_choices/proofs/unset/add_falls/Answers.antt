use Rattle.std.proofs.Common.{◌≤◌, length, get_or, subst, arith}
use Rattle.std.proofs.lemmas.List.{get_or_default}
use Rattle.edge_origins.specs.declared.origins.Fall.{Fall}
use Rattle.text_choices.specs.declared.kinds.Kind.TheVariants as Kinds
use Rattle.operand_orders.specs.Reached.{IsReached}
use Rattle.operand_orders.specs.reading.Views.{solved}
use Rattle.open_choices.specs.reading.Found.{IsFallen}
use Rattle.text_choices.specs.Choices.{Adds}
use Rattle.open_choices.specs.reading.Found.{IsOfSome}
use Rattle.open_choices.proofs.ChoiceLists.{added_some, added_where, added_whole}
use Rattle.open_choices.proofs.unset.add_falls.Goals as goal

abbrev nothing : Fall
nothing = record { place = record { line = 0; col = 0 }; edge = 0 }

pub loop-fall-preserved : goal.loop-fall-preserved
loop-fall-preserved c =
    let xs = c.deref-fall-items.result.now in
    let i = c.loop-fall.fall-index in
    let x = get_or xs i nothing in
    added_some (IsFallen (solved c.args.view)) xs c.args.choices.now.items c.loop-fall.choices.items
    c.add_if.new.choices.items i x c.loop-fall-test.true (get_or_default xs i nothing x c.loop-fall-test.true)
    c.loop-fall.invariant (added_where Kinds.Unset x.place
    c.is_reached-is.result (IsReached (solved c.args.view) x.edge) c.loop-fall.choices.items c.add_if.new.choices.items
    c.is_reached-is.ensures c.in_ok-add_if.ensures)

pub returns : goal.returns
returns c =
    let xs = c.deref-fall-items.result.now in
    let i = c.loop-fall.fall-index in
    let end : length xs ≤ i = omega arith in
    subst (λ ys. Adds c.args.choices.now.items c.loop-fall.choices.items (IsOfSome (IsFallen (solved c.args.view)) ys))
    c.deref-fall-items.ensures.value
    (added_whole (IsFallen (solved c.args.view)) xs c.args.choices.now.items c.loop-fall.choices.items i end c.loop-fall.invariant)
