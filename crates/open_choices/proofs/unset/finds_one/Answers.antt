use Rattle.std.proofs.Common.{◌≤◌, length, get_or, arith}
use Rattle.std.proofs.lemmas.List.{get_or_default}
use Rattle.operand_orders.specs.reading.Views.{solved}
use Rattle.open_choices.specs.Unset.{FindsUnset}
use Rattle.open_choices.proofs.Searching.{is_found, not_found, not_so, none_yet, none_more, none_of_all, one_found}
use Rattle.open_choices.proofs.unset.finds_one.Goals as goal

pub loop-cell-init : goal.loop-cell-init
loop-cell-init c = none_yet (FindsUnset (solved c.args.view) c.args.edge c.args.state.now) c.args.cells.now

pub returns-then-finds_unset : goal.returns-then-finds_unset
returns-then-finds_unset c =
    let xs = c.args.cells.now in
    let i = c.loop-cell.cell-index in
    is_found (one_found (FindsUnset (solved c.args.view) c.args.edge c.args.state.now) xs i (get_or xs i 0)
    c.loop-cell-test.true
    (get_or_default xs i 0 (get_or xs i 0) c.loop-cell-test.true) (c.finds_unset.ensures.0 c.if-finds_unset.true))

pub loop-cell-preserved : goal.loop-cell-preserved
loop-cell-preserved c =
    let xs = c.args.cells.now in
    let i = c.loop-cell.cell-index in
    none_more (FindsUnset (solved c.args.view) c.args.edge c.args.state.now) xs i (get_or xs i 0) c.loop-cell-test.true
    (get_or_default xs i 0 (get_or xs i 0) c.loop-cell-test.true) c.loop-cell.invariant
    (not_so c.finds_unset.result c.finds_unset.ensures c.if-finds_unset.false)

pub returns : goal.returns
returns c =
    let end : length c.args.cells.now ≤ c.loop-cell.cell-index = omega arith in
    not_found (none_of_all (FindsUnset (solved c.args.view) c.args.edge c.args.state.now) c.args.cells.now
    c.loop-cell.cell-index end c.loop-cell.invariant)
