use Rattle.std.proofs.Common.{◌+◌, ◌∙◌, [], get_or, sym, subst, Vec}
use Rattle.std.specs.Prelude.{Contains}
use Rattle.std.specs.declared.alloc.Global.{Global}
use Rattle.std.proofs.lemmas.Bool.{true≢false}
use Rattle.std.proofs.lemmas.List.{get_or_default}
use Rattle.place_lists.specs.Order.{AreInOrder}
use Rattle.tm_terms.specs.declared.places.Place.{Place}
use Rattle.value_ranges.specs.reading.Notes.{Below}
use Rattle.value_ranges.specs.reading.Reached.{AddsPlaces, IsLeft}
use Rattle.value_ranges.proofs.Adding.{adds_nothing, adds_more, adds_same, adds_all, left_added, none_left}
use Rattle.value_ranges.proofs.Adding.{both_ok, left_out, left_of_same}
use Rattle.value_ranges.proofs.places.left_out.Goals as goal
use Rattle.value_ranges.proofs.places.left_out.Goals.{then-not-has_place+in_ok-push_place, else-not-has_place}

pub loop-index-init : goal.loop-index-init
loop-index-init c =
    subst (λ xs. AddsPlaces (λ q. Below (IsLeft c.args.places.now c.in_ok-others.others.items q) 0) [] xs)
    (sym c.new-left.ensures.items)
    (adds_nothing (λ q k. IsLeft c.args.places.now c.in_ok-others.others.items q k) [])

pub has_place-requires : goal.has_place-requires
has_place-requires c = subst AreInOrder (sym c.deref.ensures.value) c.in_ok-others.ensures.sorted

pub loop-index-preserved : goal.loop-index-preserved
loop-index-preserved c =
    let places = c.args.places.now in
    let others = c.in_ok-others.others.items in
    let i = c.loop-index.index in
    let lt = c.loop-index-test.true in
    let place : Place = get_or places i (record { line = 0; col = 0 }) in
    let is = get_or_default places i (record { line = 0; col = 0 }) place lt in
    let Left = λ (v : Vec Place Global). AddsPlaces (λ q. Below (IsLeft places others q) (i + 1)) [] v.items in
    elim c.if-not-has_place.branch [
      | then-not-has_place+in_ok-push_place w ↦ subst Left (sym w.left-is)
          (adds_more (λ q k. IsLeft places others q k) i [] c.loop-index.left.items w.push_place.new.places.items
          c.loop-index.invariant
          (left_added places others i place is lt
          (λ h. true≢false (sym (c.has_place.ensures.1 (subst (λ xs. Contains xs place) (sym c.deref.ensures.value) h))
          ∙ w.if-not-has_place.true)) c.loop-index.left.items w.push_place.new.places.items w.in_ok-push_place.ensures))
      | else-not-has_place w ↦ subst Left (sym w.left-is)
          (adds_same (λ q k. IsLeft places others q k) i [] c.loop-index.left.items c.loop-index.invariant
          (none_left places others i place is lt
          (subst (λ xs. Contains xs place) c.deref.ensures.value (c.has_place.ensures.0 w.if-not-has_place.false))))
    ]

pub returns : goal.returns
returns c =
    let places = c.args.places.now in
    let others = c.in_ok-others.others.items in
    let n = c.loop-index.index in
    both_ok _ _ _ (λ left sorted same.
    left_of_same places others c.args.taken.items left.items c.in_ok-others.ensures.same
    (left_out places others c.loop-index.left.items left.items n c.loop-index-test.false
    (adds_all (λ q. Below (IsLeft places others q) n) c.loop-index.left.items c.loop-index.invariant) sorted same
    c.loop-index.auto.index-end)) c.in_order-2.result c.in_order-2.ensures.sorted c.in_order-2.ensures.same
