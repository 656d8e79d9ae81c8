use Rattle.std.proofs.Common.{◌≤◌, length, take, arith}
use Rattle.open_choices.specs.reading.Left.{IsHeldIn}
use Rattle.open_choices.specs.reading.Left.{IsOfEach}
use Rattle.open_choices.proofs.Additions.{added_as, added_nothing, added_some, added_whole, some_none}
use Rattle.open_choices.proofs.Others.{IsWritten, sets_written}
use Rattle.open_choices.proofs.beginnings.add_written.Goals as goal

pub loop-held-init : goal.loop-held-init
loop-held-init c =
    let items = c.entries-held-items.result.now in
    added_nothing (IsOfEach IsWritten (take 0 items)) (IsOfEach IsWritten (take 0 items)) c.args.objects.now.items
    (some_none IsWritten items)

pub loop-held-preserved : goal.loop-held-preserved
loop-held-preserved c =
    added_some IsWritten c.entries-held-items.result.now c.args.objects.now.items c.loop-held.objects.items
    c.add_cells.new.objects.items c.loop-held.held-index c.loop-held-item.result c.loop-held-test.true
    c.loop-held-item.is c.loop-held.invariant c.in_ok-add_cells.ensures

pub returns : goal.returns
returns c =
    let items = c.entries-held-items.result.now in
    let whole = c.entries-held-items.ensures in
    let end : length items ≤ c.loop-held.held-index = omega arith in
    added_as (IsOfEach IsWritten items) (IsHeldIn c.args.written.now) c.args.objects.now.items
    c.loop-held.objects.items (sets_written c.args.written.now items whole)
    (added_whole IsWritten items c.args.objects.now.items c.loop-held.objects.items c.loop-held.held-index end
    c.loop-held.invariant)
