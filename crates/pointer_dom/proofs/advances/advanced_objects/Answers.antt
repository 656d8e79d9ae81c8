use Rattle.std.proofs.Common.{◌∙◌, ◌&&◌, T, [], true, take, refl, sym, subst}
use Rattle.std.proofs.lemmas.List.{take_all}
use Rattle.std.specs.Ordering.{nat_cmp}
use Rattle.std.specs.FinMap as map
use Rattle.strided_dom.specs.Progression.{Has}
use Rattle.pointer_dom.proofs.AdvanceFacts.{Reaches, Stay, never_reached, none_stay}
use Rattle.pointer_dom.proofs.MeetFacts.{one_more}
use Rattle.pointer_dom.proofs.WalkFacts.{IsWalkedUpTo, walked_none, walked_more, given_all, hold_all}
use Rattle.pointer_dom.proofs.advances.advanced_objects.Goals as goal

pub loop-object-init : goal.loop-object-init
loop-object-init c =
    let s = c.args.steps.now in
    subst (λ r. IsWalkedUpTo (Reaches s) (Stay s) [] r true) (sym c.new-reached.ensures) (walked_none (Reaches s) (Stay s) (λ object. never_reached (Has s)))

pub loop-object-preserved : goal.loop-object-preserved
loop-object-preserved c =
    let s = c.args.steps.now in
    let es = take c.loop-object.object-index c.entries-object-items.result.now in
    let e = c.loop-object-item.result in
    let sorted = subst (λ l. T (map.is_sorted nat_cmp l)) (sym c.entries-object-items.ensures) (map.entries_sorted c.args.objects.now) in
    let next = one_more c.entries-object-items.result.now c.loop-object.object-index e sorted c.loop-object-test.true c.loop-object-item.is in
    subst (λ l. IsWalkedUpTo (Reaches s) (Stay s) l c.join_at.new.self (c.loop-object.inside && c.advanced-moved.result.1)) (sym next.0)
    (walked_more (Reaches s) (Stay s) (λ object. never_reached (Has s)) es e c.loop-object.reached c.join_at.new.self c.loop-object.inside c.advanced-moved.result.1 (c.loop-object.inside && c.advanced-moved.result.1) c.advanced-moved.result.0
    c.loop-object.invariant next.1 c.advanced-moved.ensures.offsets c.advanced-moved.ensures.inside refl c.in_ok-join_at.ensures.nothing c.in_ok-join_at.ensures.joined)

pub returns-clause-objects : goal.returns-clause-objects
returns-clause-objects c =
    let s = c.args.steps.now in
    let all = take_all c.loop-object.object-index c.entries-object-items.result.now c.loop-object-test.false ∙ c.entries-object-items.ensures in
    given_all (Reaches s) (Stay s) (λ object. never_reached (Has s)) c.args.objects.now c.loop-object.reached _ c.loop-object.inside all c.loop-object.invariant

pub returns-clause-inside : goal.returns-clause-inside
returns-clause-inside c =
    let s = c.args.steps.now in
    let all = take_all c.loop-object.object-index c.entries-object-items.result.now c.loop-object-test.false ∙ c.entries-object-items.ensures in
    hold_all (Reaches s) (Stay s) (λ object. never_reached (Has s)) c.args.objects.now c.loop-object.reached _ c.loop-object.inside all c.loop-object.invariant
    (λ object. none_stay (Has s))
