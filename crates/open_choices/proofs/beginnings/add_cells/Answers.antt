use Rattle.std.proofs.Common.{◌≤◌, length, take, arith}
use Rattle.open_choices.specs.reading.Left.{IsPointedIn}
use Rattle.open_choices.specs.reading.Left.{IsOfEach}
use Rattle.open_choices.proofs.Additions.{added_as, added_nothing, added_some, added_whole, some_none}
use Rattle.open_choices.proofs.Others.{IsPointed, cells_pointed}
use Rattle.open_choices.proofs.beginnings.add_cells.Goals as goal

pub loop-cell-init : goal.loop-cell-init
loop-cell-init c =
    let items = c.entries-cell-items.result.now in
    added_nothing (IsOfEach IsPointed (take 0 items)) (IsOfEach IsPointed (take 0 items)) c.args.objects.now.items
    (some_none IsPointed items)

pub loop-cell-preserved : goal.loop-cell-preserved
loop-cell-preserved c =
    added_some IsPointed c.entries-cell-items.result.now c.args.objects.now.items c.loop-cell.objects.items
    c.add_objects.new.objects.items c.loop-cell.cell-index c.loop-cell-item.result c.loop-cell-test.true
    c.loop-cell-item.is c.loop-cell.invariant c.in_ok-add_objects.ensures

pub returns : goal.returns
returns c =
    let items = c.entries-cell-items.result.now in
    let whole = c.entries-cell-items.ensures in
    let end : length items ≤ c.loop-cell.cell-index = omega arith in
    added_as (IsOfEach IsPointed items) (IsPointedIn c.args.cells.now) c.args.objects.now.items
    c.loop-cell.objects.items (cells_pointed c.args.cells.now items whole)
    (added_whole IsPointed items c.args.objects.now.items c.loop-cell.objects.items c.loop-cell.cell-index end
    c.loop-cell.invariant)
