use Rattle.std.proofs.Common.{◌≡◌, ◌↔◌, ◌+◌, ℕ, List, length, refl, sym, subst, arith}
use Rattle.request_circles.specs.declared.rings.Ring.{Ring as ARing}
use Rattle.request_circles.specs.declared.requests.Request.{Request as ARequest}
use Rattle.request_circles.specs.reading.Steps.{IsMarked, IsOnCircle}
use Rattle.request_circles.specs.reading.Nearest.{AreNearest}
use Rattle.request_circles.proofs.Shortest.{one_ring_more, all_shortest}
use Rattle.request_circles.proofs.rings.rings_at.Goals as goal

pub loop-index-preserved : goal.loop-index-preserved
loop-index-preserved c =
    let requests = c.args.requests.now in
    let heads = c.in_ok-classes.classes.heads.items in
    let numbers = c.in_ok-classes.classes.numbers.items in
    let left = c.in_ok-left.left.marks.items in
    let places = c.args.places.now in
    subst (λ (rs : List ARing). AreNearest requests heads numbers left places (c.loop-index.index + 1) rs)
    (sym c.in_ok-push.ensures.items)
    (one_ring_more requests heads numbers left places c.loop-index.index c.loop-index.rings.items _
    (record { line = 0; col = 0 }) c.loop-index-test.true refl c.loop-index.invariant c.in_ok-requests.ensures)

pub returns : goal.returns
returns c = λ circular.
    let heads = c.in_ok-classes.classes.heads.items in
    let left = c.in_ok-left.left.marks.items in
    let end : c.loop-index.index ≡ length c.args.places.now = omega arith in
    let circles : (k : ℕ) → IsMarked left k ↔ IsOnCircle heads k =
    subst (λ (hs : List ARequest). (k : ℕ) → IsMarked left k ↔ IsOnCircle hs k) c.deref.ensures.value
    c.in_ok-left.ensures in
    all_shortest c.args.requests.now heads c.in_ok-classes.classes.numbers.items left c.in_ok-classes.ensures circles
    c.args.places.now c.loop-index.index c.loop-index.rings.items end c.loop-index.invariant circular
