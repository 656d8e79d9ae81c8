use Rattle.std.proofs.Common.{◌≡◌, ◌↔◌, ◌+◌, refl, sym, subst, length, ◌∙◌, true, false, arith}
use Rattle.std.specs.Prelude.{Contains}
use Rattle.request_circles.proofs.Ordered.{IsPlaceBelow, place_pushed, place_left, place_end}
use Rattle.request_circles.proofs.places.places_of.Goals as goal
use Rattle.request_circles.proofs.places.places_of.Goals.{then-has+in_ok-push_place, else-has}

pub loop-number-preserved : goal.loop-number-preserved
loop-number-preserved c = λ q.
    let requests = c.args.requests.now in
    let numbers = c.args.numbers.now.marks.items in
    let n = c.loop-number.number in
    elim c.if-has.branch [
      | then-has+in_ok-push_place w ↦ subst (λ v. Contains v.items q ↔ IsPlaceBelow requests numbers (n + 1) q)
          (sym w.places-is)
          (place_pushed requests numbers n q _ (Contains c.loop-number.places.items q)
          (Contains w.push_place.new.places.items q) (c.has.ensures.0 w.if-has.true) refl
          (w.in_ok-push_place.ensures q) (c.loop-number.invariant q))
      | else-has w ↦ subst (λ v. Contains v.items q ↔ IsPlaceBelow requests numbers (n + 1) q) (sym w.places-is)
          (place_left requests numbers n q c.loop-number.places.items
          (λ m. let one = c.has.ensures.1 m in let clash : false ≡ true = sym w.if-has.false ∙ one in cc)
          (c.loop-number.invariant q))
    ]

pub returns : goal.returns
returns c = λ q.
    let end : c.loop-number.number ≡ length c.args.requests.now = omega arith in
    place_end c.args.requests.now c.args.numbers.now.marks.items c.loop-number.number q c.loop-number.places.items end
    (c.loop-number.invariant q)
