use Rattle.std.proofs.Common.{◌∙◌, T, [], take, sym, ap, subst}
use Rattle.std.proofs.lemmas.List.{take_all}
use Rattle.std.specs.Option.{option_copied}
use Rattle.std.specs.Ordering.{nat_cmp}
use Rattle.std.specs.FinMap as map
use Rattle.pointer_dom.specs.PointerSets.{IsMeetAt}
use Rattle.pointer_dom.proofs.MeetFacts.{IsMetUpTo, met_none, met_absent, met_there, one_more}
use Rattle.pointer_dom.proofs.pointer_set.common_offsets.Goals.{in-Some+in_ok-join_at, in_default}
use Rattle.pointer_dom.proofs.pointer_set.common_offsets.Goals as goal

pub loop-object-init : goal.loop-object-init
loop-object-init c = subst (IsMetUpTo c.args.other.now []) (sym c.new-both.ensures) (met_none c.args.other.now)

pub loop-object-preserved : goal.loop-object-preserved
loop-object-preserved c =
    let t = c.args.other.now in
    let es = take c.loop-object.object-index c.entries-object-items.result.now in
    let e = c.loop-object-item.result in
    let sorted = subst (λ l. T (map.is_sorted nat_cmp l)) (sym c.entries-object-items.ensures) (map.entries_sorted c.args.one.now) in
    let next = one_more c.entries-object-items.result.now c.loop-object.object-index e sorted c.loop-object-test.true c.loop-object-item.is in
    subst (λ l. IsMetUpTo t l c.match-get.both) (sym next.0) (elim c.match-get.branch [
      | in-Some+in_ok-join_at w ↦
          met_there t es e c.loop-object.both c.match-get.both c.loop-object.invariant next.1 w.in-Some.others.now w.meet.result
          (sym c.get.ensures ∙ ap option_copied w.in-Some.is) w.meet.ensures
          (λ none. w.both-is ∙ w.in_ok-join_at.ensures.nothing none) (λ some. w.both-is ∙ w.in_ok-join_at.ensures.joined some)
      | in_default w ↦ met_absent t es e c.loop-object.both c.match-get.both c.loop-object.invariant next.1 (sym c.get.ensures ∙ ap option_copied w.in_default.is) w.both-is
    ])

pub returns : goal.returns
returns c =
    let all = take_all c.loop-object.object-index c.entries-object-items.result.now c.loop-object-test.false ∙ c.entries-object-items.ensures in
    λ object. subst (λ x. IsMeetAt x (map.get c.args.other.now object) (map.get c.loop-object.both object))
    (ap (map.find nat_cmp object) all ∙ sym (map.get-entries c.args.one.now object)) (c.loop-object.invariant.met object)
