use Rattle.std.proofs.Common.{◌≤◌, length, ap, ◌∙◌, arith}
use Rattle.std.specs.FinMap as map
use Rattle.open_choices.proofs.Entries.{IsOtherBeginning, begins_other, begun_other}
use Rattle.open_choices.proofs.Searching.{is_found, not_found, not_so, none_yet, none_more, none_of_all, one_found}
use Rattle.open_choices.proofs.members.begins_another.Goals as goal

pub loop-other-init : goal.loop-other-init
loop-other-init c = none_yet (IsOtherBeginning c.args.object) c.entries-other-items.result.now

pub returns-then-is_other_begin : goal.returns-then-is_other_begin
returns-then-is_other_begin c =
    let p = c.args.pointers.now in
    let items = c.entries-other-items.result.now in
    let whole = c.entries-other-items.ensures ∙ ap map.entries c.objects.ensures.value in
    is_found (begins_other p items whole c.args.object (one_found (IsOtherBeginning c.args.object) items
    c.loop-other.other-index c.loop-other-item.result c.loop-other-test.true
    c.loop-other-item.is (c.is_other_begin.ensures.0 c.if-is_other_begin.true)))

pub loop-other-preserved : goal.loop-other-preserved
loop-other-preserved c =
    none_more (IsOtherBeginning c.args.object) c.entries-other-items.result.now c.loop-other.other-index
    c.loop-other-item.result
    c.loop-other-test.true c.loop-other-item.is c.loop-other.invariant (not_so c.is_other_begin.result
    c.is_other_begin.ensures c.if-is_other_begin.false)

pub returns : goal.returns
returns c =
    let p = c.args.pointers.now in
    let items = c.entries-other-items.result.now in
    let whole = c.entries-other-items.ensures ∙ ap map.entries c.objects.ensures.value in
    let end : length items ≤ c.loop-other.other-index = omega arith in
    not_found (λ h. none_of_all (IsOtherBeginning c.args.object) items c.loop-other.other-index end
    c.loop-other.invariant (begun_other p items whole c.args.object h))
