use Rattle.std.proofs.Common.{◌≤◌, length, take, ap, ◌∙◌, arith}
use Rattle.std.specs.FinMap as map
use Rattle.post_recheck.specs.transfer_rows.StateForms.{only_pointers}
use Rattle.open_choices.specs.Lifetimes.{PointsTo}
use Rattle.open_choices.specs.reading.Left.{IsOfEach}
use Rattle.open_choices.proofs.Additions.{added_as, added_nothing, added_some, added_whole, some_none}
use Rattle.open_choices.proofs.Others.{IsNamed, objects_named, pushed}
use Rattle.open_choices.proofs.beginnings.add_named.Goals as goal

pub loop-object-init : goal.loop-object-init
loop-object-init c =
    let items = c.entries-object-items.result.now in
    added_nothing (IsOfEach IsNamed (take 0 items)) (IsOfEach IsNamed (take 0 items)) c.args.objects.now.items
    (some_none IsNamed items)

pub loop-object-preserved : goal.loop-object-preserved
loop-object-preserved c =
    added_some IsNamed c.entries-object-items.result.now c.args.objects.now.items c.loop-object.objects.items
    c.push.new.self.items c.loop-object.object-index c.loop-object-item.result c.loop-object-test.true
    c.loop-object-item.is c.loop-object.invariant (pushed c.loop-object.objects.items c.push.new.self.items
    (c.loop-object-item.result.0) c.in_ok-push.ensures.items)

pub returns : goal.returns
returns c =
    let items = c.entries-object-items.result.now in
    let whole = c.entries-object-items.ensures ∙ ap map.entries c.objects.ensures.value in
    let end : length items ≤ c.loop-object.object-index = omega arith in
    added_as (IsOfEach IsNamed items) (PointsTo (only_pointers c.args.pointers.now)) c.args.objects.now.items
    c.loop-object.objects.items (objects_named (only_pointers c.args.pointers.now) c.objects.ensures.within items whole)
    (added_whole IsNamed items c.args.objects.now.items c.loop-object.objects.items c.loop-object.object-index end
    c.loop-object.invariant)
