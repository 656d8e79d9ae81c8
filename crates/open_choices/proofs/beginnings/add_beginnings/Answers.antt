use Rattle.std.proofs.Common.{◌≤◌, length, get_or, subst, arith}
use Rattle.std.proofs.lemmas.List.{get_or_default}
use Rattle.text_choices.specs.declared.kinds.Kind.TheVariants as Kinds
use Rattle.path_origins.specs.declared.origins.Life.{Life}
use Rattle.operand_orders.specs.reading.Views.{solved}
use Rattle.open_choices.specs.Lifetimes.{IsLeftOver}
use Rattle.open_choices.specs.reading.Found.{IsBegun}
use Rattle.open_choices.proofs.Unsets.{no_life}
use Rattle.text_choices.specs.Choices.{Adds}
use Rattle.open_choices.specs.reading.Found.{IsOfSome}
use Rattle.open_choices.proofs.ChoiceLists.{added_some, added_where, added_whole}
use Rattle.open_choices.proofs.beginnings.add_beginnings.Goals as goal

abbrev nothing : Life
nothing = no_life

pub loop-life-preserved : goal.loop-life-preserved
loop-life-preserved c =
    let xs = c.deref-life-items.result.now in
    let i = c.loop-life.life-index in
    let x = get_or xs i nothing in
    added_some (IsBegun (solved c.args.view)) xs c.args.choices.now.items c.loop-life.choices.items
    c.add_if.new.choices.items i x c.loop-life-test.true (get_or_default xs i nothing x c.loop-life-test.true)
    c.loop-life.invariant (added_where Kinds.Lifetime x.place
    c.in_ok-is.is' (IsLeftOver (solved c.args.view) x) c.loop-life.choices.items c.add_if.new.choices.items
    c.in_ok-is.ensures c.in_ok-add_if.ensures)

pub returns : goal.returns
returns c =
    let xs = c.deref-life-items.result.now in
    let i = c.loop-life.life-index in
    let end : length xs ≤ i = omega arith in
    subst (λ ys. Adds c.args.choices.now.items c.loop-life.choices.items (IsOfSome (IsBegun (solved c.args.view)) ys))
    c.deref-life-items.ensures.value
    (added_whole (IsBegun (solved c.args.view)) xs c.args.choices.now.items c.loop-life.choices.items i end
    c.loop-life.invariant)
