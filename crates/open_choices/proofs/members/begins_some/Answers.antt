use Rattle.std.proofs.Common.{◌≤◌, length, pos, ap, subst, ◌∙◌, arith}
use Rattle.std.specs.FinMap as map
use Rattle.strided_dom.specs.Progression.{Has}
use Rattle.open_choices.proofs.Entries.{IsBeginning, begins, begun}
use Rattle.open_choices.proofs.Searching.{is_found, not_found, none_of_all, one_found}
use Rattle.open_choices.proofs.members.begins_some.Goals as goal

pub returns-then-has : goal.returns-then-has
returns-then-has c =
    let p = c.args.pointers.now in
    let items = c.entries-object-items.result.now in
    let whole = c.entries-object-items.ensures ∙ ap map.entries c.objects.ensures.value in
    let e = c.loop-object-item.result in
    is_found (begins p items whole (one_found IsBeginning items c.loop-object.object-index e
    c.loop-object-test.true c.loop-object-item.is
    (subst (λ s. Has s (pos 0)) c.set.ensures.value (c.has.ensures.0 c.if-has.true))))

pub returns : goal.returns
returns c =
    let p = c.args.pointers.now in
    let items = c.entries-object-items.result.now in
    let whole = c.entries-object-items.ensures ∙ ap map.entries c.objects.ensures.value in
    let end : length items ≤ c.loop-object.object-index = omega arith in
    not_found (λ h. none_of_all IsBeginning items c.loop-object.object-index end c.loop-object.invariant
    (begun p items whole h))
