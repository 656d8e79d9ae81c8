use Rattle.std.proofs.Common.{◌≤◌, length, take, ap, ◌∙◌, arith}
use Rattle.std.specs.FinMap as map
use Rattle.open_choices.specs.reading.Left.{IsHeldByOthers}
use Rattle.open_choices.specs.reading.Left.{IsOfEach}
use Rattle.open_choices.proofs.Additions.{added_as, added_nothing, added_some, added_whole, some_none}
use Rattle.open_choices.proofs.Others.{IsOther, tasks_held}
use Rattle.open_choices.proofs.beginnings.add_others.Goals as goal

pub loop-writer-init : goal.loop-writer-init
loop-writer-init c =
    let items = c.entries-writer-items.result.now in
    added_nothing (IsOfEach (IsOther c.args.body) (take 0 items)) (IsOfEach (IsOther c.args.body) (take 0 items))
    c.args.objects.now.items
    (some_none (IsOther c.args.body) items)

pub loop-writer-preserved : goal.loop-writer-preserved
loop-writer-preserved c =
    added_some (IsOther c.args.body) c.entries-writer-items.result.now c.args.objects.now.items
    c.loop-writer.objects.items
    c.add_task.new.objects.items c.loop-writer.writer-index c.loop-writer-item.result c.loop-writer-test.true
    c.loop-writer-item.is c.loop-writer.invariant c.in_ok-add_task.ensures

pub returns : goal.returns
returns c =
    let items = c.entries-writer-items.result.now in
    let whole = c.entries-writer-items.ensures ∙ ap map.entries c.weak.ensures in
    let end : length items ≤ c.loop-writer.writer-index = omega arith in
    added_as (IsOfEach (IsOther c.args.body) items) (IsHeldByOthers c.args.store.now c.args.body)
    c.args.objects.now.items c.loop-writer.objects.items (tasks_held c.args.store.now c.args.body items whole)
    (added_whole (IsOther c.args.body) items c.args.objects.now.items c.loop-writer.objects.items
    c.loop-writer.writer-index end
    c.loop-writer.invariant)
