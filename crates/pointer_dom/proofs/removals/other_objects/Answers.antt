use Rattle.std.proofs.Common.{◌∙◌, T, [], true, take, refl, sym, subst}
use Rattle.std.specs.Prelude.{⊤}
use Rattle.std.proofs.lemmas.List.{take_all}
use Rattle.std.specs.Ordering.{nat_cmp}
use Rattle.std.specs.FinMap as map
use Rattle.pointer_dom.specs.Selections.{IsOtherOffset}
use Rattle.pointer_dom.proofs.MeetFacts.{one_more}
use Rattle.pointer_dom.proofs.RemovalFacts.{never_left}
use Rattle.pointer_dom.proofs.WalkFacts.{IsWalkedUpTo, walked_none, walked_more, given_all}
use Rattle.pointer_dom.proofs.removals.other_objects.Goals as goal

pub loop-key-init : goal.loop-key-init
loop-key-init c =
    let P = IsOtherOffset c.args.object c.args.offset in
    subst (λ r. IsWalkedUpTo P (λ key o. ⊤) [] r true) (sym c.new-others.ensures) (walked_none P (λ key o. ⊤) (never_left c.args.object c.args.offset))

pub loop-key-preserved : goal.loop-key-preserved
loop-key-preserved c =
    let P = IsOtherOffset c.args.object c.args.offset in
    let es = take c.loop-key.key-index c.entries-key-items.result.now in
    let e = c.loop-key-item.result in
    let sorted = subst (λ l. T (map.is_sorted nat_cmp l)) (sym c.entries-key-items.ensures) (map.entries_sorted c.args.objects.now) in
    let next = one_more c.entries-key-items.result.now c.loop-key.key-index e sorted c.loop-key-test.true c.loop-key-item.is in
    subst (λ l. IsWalkedUpTo P (λ key o. ⊤) l c.join_at.new.self true) (sym next.0)
    (walked_more P (λ key o. ⊤) (never_left c.args.object c.args.offset) es e c.loop-key.others c.join_at.new.self true true true c.other_offsets.result
    c.loop-key.invariant next.1 c.other_offsets.ensures (λ _. tt, λ _. refl) refl c.in_ok-join_at.ensures.nothing c.in_ok-join_at.ensures.joined)

pub returns : goal.returns
returns c =
    let all = take_all c.loop-key.key-index c.entries-key-items.result.now c.loop-key-test.false ∙ c.entries-key-items.ensures in
    given_all (IsOtherOffset c.args.object c.args.offset) (λ key o. ⊤) (never_left c.args.object c.args.offset) c.args.objects.now c.loop-key.others _ true all c.loop-key.invariant
