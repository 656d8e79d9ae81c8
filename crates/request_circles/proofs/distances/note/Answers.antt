use Rattle.std.proofs.Common.{◌≡◌, ℕ, List, set, sym, subst, rules}
use Rattle.request_circles.specs.reading.Classes.{number_at}
use Rattle.request_circles.specs.reading.Distances.{HasLevel}
use Rattle.request_circles.proofs.Noting.{level_new}
use Rattle.request_circles.proofs.distances.note.Goals as goal

pub returns-in_ok-push-in-Some : goal.returns-in_ok-push-in-Some
returns-in_ok-push-in-Some c =
    let requests = c.args.requests.now in
    let left = c.args.left.now.marks.items in
    let frontier = c.args.frontier.now in
    let far = c.args.noted.now.far.items in
    let next = c.args.noted.now.next.items in
    let found = c.args.found.now.items in
    let n = c.args.number in
    let to = c.in-Some.to in
    let new : number_at far n ≡ 0 = search rules in
    subst (λ (ws : List ℕ). HasLevel requests left frontier c.args.steps (λ k. k ≡ n) far next found
    (set far n c.args.steps) (set next n to) ws) (sym c.in_ok-push-in-Some.ensures.items)
    (level_new requests left frontier c.args.steps far next found n to c.requires.number c.requires.far c.requires.next
    c.requires.steps new c.in-Some.ensures.0 c.in-Some.ensures.1)
