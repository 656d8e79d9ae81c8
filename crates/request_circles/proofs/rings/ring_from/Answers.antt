use Rattle.std.proofs.Common.{◌≡◌, ◌<◌, ◌≤◌, length, sym, ◌∙◌, arith}
use Rattle.std.proofs.lemmas.List.{get_or_default}
use Rattle.request_circles.specs.reading.Classes.{number_at}
use Rattle.request_circles.specs.reading.Nearest.{IsWalk, IsNearest}
use Rattle.request_circles.proofs.Ordered.{both_facts}
use Rattle.request_circles.proofs.Walking.{nearest_none, nearest_some}
use Rattle.request_circles.proofs.rings.ring_from.Goals as goal

pub returns-then-index-eq0 : goal.returns-then-index-eq0
returns-then-index-eq0 c =
    let heads = c.args.heads.now in
    let end = c.args.end in
    let far = c.in_ok-noted.noted.far.items in
    let are = c.in_ok-noted.ensures in
    let count = are.far_count in
    let lt : end < length far = omega (arith, c.requires.end, count) in
    let none : number_at far end ≡ 0 =
    get_or_default far end 0 c.index.result.now lt ∙ sym c.index.ensures ∙ c.if-index-eq0.true in
    nearest_none heads c.args.left.now.marks.items end c.args.first far c.in_ok-noted.noted.next.items are none
    c.new.result.items c.new.ensures.items

pub returns : goal.returns
returns c =
    let heads = c.args.heads.now in
    let left = c.args.left.now.marks.items in
    let end = c.args.end in
    let first = c.args.first in
    let far = c.in_ok-noted.noted.far.items in
    both_facts (λ ring. IsWalk heads first ring.items first) (λ ring. length ring.items ≤ number_at far end)
    (λ ring. IsNearest heads left end first ring.items)
    (λ ring w short. nearest_some heads left end first far c.in_ok-noted.noted.next.items c.in_ok-noted.ensures ring.items
    w short) c.walk.result c.walk.ensures.walk c.walk.ensures.short
