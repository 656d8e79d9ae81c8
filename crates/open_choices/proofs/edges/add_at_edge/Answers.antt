use Rattle.std.proofs.Common.{◌≤◌, length, get_or, sym, ◌∙◌, arith}
use Rattle.std.proofs.lemmas.List.{get_or_default}
use Rattle.std.proofs.lemmas.List.Elements.{Contains-get_or}
use Rattle.operand_orders.specs.reading.Views.{solved}
use Rattle.open_choices.specs.reading.Found.{IsOfCopy, IsOfEdge, IsOfSome}
use Rattle.open_choices.proofs.ChoiceLists.{added_as, added_nothing, added_some, added_whole, some_none}
use Rattle.open_choices.proofs.Copies.{counted_there, of_copies, nothing_open}
use Rattle.open_choices.proofs.edges.add_at_edge.Goals as goal

pub returns-then-is_nothing : goal.returns-then-is_nothing
returns-then-is_nothing c =
    let b = solved c.args.view in
    let Opens = IsOfEdge b c.args.edge c.args.look in
    added_nothing Opens Opens c.args.choices.now.items
    (nothing_open b c.args.edge c.args.look (sym c.is_nothing.ensures ∙ c.if-is_nothing.true))

pub loop-copy-init : goal.loop-copy-init
loop-copy-init c =
    let b = solved c.args.view in
    let Opens = IsOfCopy b c.args.edge c.args.look in
    added_nothing (IsOfEdge b c.args.edge c.args.look) _ c.args.choices.now.items
    (some_none Opens c.copies_of-copy-items.result.now)

pub add_of_copy-requires-clause-counted : goal.add_of_copy-requires-clause-counted
add_of_copy-requires-clause-counted c = λ s e.
    let xs = c.copies_of-copy-items.result.now in
    let i = c.loop-copy.copy-index in
    counted_there (solved c.args.view) c.args.edge c.args.look xs c.copies_of-copy-items.ensures c.requires.counted
    (get_or xs i 0) s (Contains-get_or xs i 0 c.loop-copy-test.true) e

pub loop-copy-preserved : goal.loop-copy-preserved
loop-copy-preserved c =
    let xs = c.copies_of-copy-items.result.now in
    let i = c.loop-copy.copy-index in
    added_some (IsOfCopy (solved c.args.view) c.args.edge c.args.look) xs c.args.choices.now.items
    c.loop-copy.choices.items c.add_of_copy.new.choices.items i (get_or xs i 0) c.loop-copy-test.true
    (get_or_default xs i 0 (get_or xs i 0) c.loop-copy-test.true) c.loop-copy.invariant c.in_ok-add_of_copy.ensures

pub returns : goal.returns
returns c =
    let b = solved c.args.view in
    let xs = c.copies_of-copy-items.result.now in
    let Opens = IsOfCopy b c.args.edge c.args.look in
    let end : length xs ≤ c.loop-copy.copy-index = omega arith in
    added_as (IsOfSome Opens xs) (IsOfEdge b c.args.edge c.args.look) c.args.choices.now.items c.loop-copy.choices.items
    (of_copies b c.args.edge c.args.look xs c.copies_of-copy-items.ensures)
    (added_whole Opens xs c.args.choices.now.items c.loop-copy.choices.items c.loop-copy.copy-index end
    c.loop-copy.invariant)
