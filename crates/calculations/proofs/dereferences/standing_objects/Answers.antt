use Rattle.calculations.specs.reading.Ends.{Alive as AliveIn, Stands as StandsIn}
use Rattle.std.proofs.Common.{◌∙◌, ◌&&◌, T, [], true, take, refl, sym, subst}
use Rattle.std.proofs.lemmas.List.{take_all}
use Rattle.std.specs.Ordering.{nat_cmp}
use Rattle.std.specs.FinMap as map
use Rattle.pointer_dom.specs.Selections.{IsStandingIn, AllStandAt}
use Rattle.pointer_dom.proofs.MeetFacts.{one_more}
use Rattle.pointer_dom.proofs.StandingFacts.{never_standing, none_stand}
use Rattle.pointer_dom.proofs.WalkFacts.{IsWalkedUpTo, walked_none, walked_more, given_all, hold_all}
use Rattle.calculations.proofs.dereferences.standing_objects.Goals as goal

pub loop-object-init : goal.loop-object-init
loop-object-init c =
    let Alive = AliveIn c.args.followed.now in
    let Stands = StandsIn c.args.followed.now in
    subst (λ r. IsWalkedUpTo (IsStandingIn Alive Stands) (AllStandAt Alive Stands) [] r true) (sym c.new-reached.ensures)
    (walked_none (IsStandingIn Alive Stands) (AllStandAt Alive Stands) (never_standing Alive Stands))

pub loop-object-preserved : goal.loop-object-preserved
loop-object-preserved c =
    let Alive = AliveIn c.args.followed.now in
    let Stands = StandsIn c.args.followed.now in
    let es = take c.loop-object.object-index c.entries-object-items.result.now in
    let e = c.loop-object-item.result in
    let sorted = subst (λ l. T (map.is_sorted nat_cmp l)) (sym c.entries-object-items.ensures) (map.entries_sorted c.args.objects.now) in
    let next = one_more c.entries-object-items.result.now c.loop-object.object-index e sorted c.loop-object-test.true c.loop-object-item.is in
    let whole = c.standing_offsets-standing.result.1 in
    subst (λ l. IsWalkedUpTo (IsStandingIn Alive Stands) (AllStandAt Alive Stands) l c.join_at.new.self (c.loop-object.all && whole)) (sym next.0)
    (walked_more (IsStandingIn Alive Stands) (AllStandAt Alive Stands) (never_standing Alive Stands) es e c.loop-object.reached c.join_at.new.self c.loop-object.all whole (c.loop-object.all && whole) c.standing_offsets-standing.result.0
    c.loop-object.invariant next.1 c.standing_offsets-standing.ensures.offsets c.standing_offsets-standing.ensures.all refl c.in_ok-join_at.ensures.nothing c.in_ok-join_at.ensures.joined)

pub returns-clause-objects : goal.returns-clause-objects
returns-clause-objects c =
    let Alive = AliveIn c.args.followed.now in
    let Stands = StandsIn c.args.followed.now in
    let all = take_all c.loop-object.object-index c.entries-object-items.result.now c.loop-object-test.false ∙ c.entries-object-items.ensures in
    given_all (IsStandingIn Alive Stands) (AllStandAt Alive Stands) (never_standing Alive Stands) c.args.objects.now c.loop-object.reached _ c.loop-object.all all c.loop-object.invariant

pub returns-clause-all : goal.returns-clause-all
returns-clause-all c =
    let Alive = AliveIn c.args.followed.now in
    let Stands = StandsIn c.args.followed.now in
    let all = take_all c.loop-object.object-index c.entries-object-items.result.now c.loop-object-test.false ∙ c.entries-object-items.ensures in
    hold_all (IsStandingIn Alive Stands) (AllStandAt Alive Stands) (never_standing Alive Stands) c.args.objects.now c.loop-object.reached _ c.loop-object.all all c.loop-object.invariant
    (none_stand Alive Stands)
