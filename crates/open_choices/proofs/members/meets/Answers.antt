use Rattle.std.proofs.Common.{◌≤◌, length, ap, ◌∙◌, arith}
use Rattle.std.specs.FinMap as map
use Rattle.open_choices.proofs.Entries.{IsEnding, meets, met, meets_begin}
use Rattle.open_choices.proofs.Searching.{is_found, not_found, not_so, none_yet, none_more, none_of_all, one_found}
use Rattle.open_choices.proofs.members.meets.Goals as goal

pub loop-object-init : goal.loop-object-init
loop-object-init c = none_yet (IsEnding c.args.other.now) c.entries-object-items.result.now

pub returns-then-is_ending : goal.returns-then-is_ending
returns-then-is_ending c =
    let p = c.args.one.now in
    let items = c.entries-object-items.result.now in
    let whole = c.entries-object-items.ensures ∙ ap map.entries c.objects.ensures.value in
    is_found (meets p items whole c.args.other.now (one_found (IsEnding c.args.other.now) items
    c.loop-object.object-index c.loop-object-item.result c.loop-object-test.true
    c.loop-object-item.is (c.is_ending.ensures.0 c.if-is_ending.true)))

pub loop-object-preserved : goal.loop-object-preserved
loop-object-preserved c =
    none_more (IsEnding c.args.other.now) c.entries-object-items.result.now c.loop-object.object-index
    c.loop-object-item.result
    c.loop-object-test.true c.loop-object-item.is c.loop-object.invariant (not_so c.is_ending.result
    c.is_ending.ensures c.if-is_ending.false)

pub returns : goal.returns
returns c =
    let p = c.args.one.now in
    let items = c.entries-object-items.result.now in
    let whole = c.entries-object-items.ensures ∙ ap map.entries c.objects.ensures.value in
    let end : length items ≤ c.loop-object.object-index = omega arith in
    not_found (λ h. none_of_all (IsEnding c.args.other.now) items c.loop-object.object-index end
    c.loop-object.invariant (met p items whole c.args.other.now h))

pub returns-then-not-begins_some : goal.returns-then-not-begins_some
returns-then-not-begins_some c =
    not_found (λ m. not_so c.begins_some.result c.begins_some.ensures c.if-not-begins_some.true
    (meets_begin c.args.one.now c.args.other.now m))
