use Rattle.std.proofs.Common.{◌≡◌, ℕ, ◌<◌, ◌-◌, ◌∷◌, ◌++◌, [], List, length, ap, sym, subst, ◌∙◌, arith}
use Rattle.std.proofs.lemmas.List.{get_or_default, length-append}
use Rattle.request_circles.specs.declared.requests.Request.{Request}
use Rattle.request_circles.specs.reading.Steps.{request_at}
use Rattle.request_circles.specs.reading.Classes.{number_at}
use Rattle.request_circles.specs.reading.Nearest.{IsOnWay}
use Rattle.request_circles.proofs.Walking.{walk_begins, walk_goes_on, walk_ends}
use Rattle.request_circles.proofs.rings.walk.Goals as goal

pub loop-next-init : goal.loop-next-init
loop-next-init c =
    let heads = c.args.heads.now in
    let end = c.args.end in
    let first = c.args.first in
    let far = c.args.noted.now.far.items in
    let next = c.args.noted.now.next.items in
    let x = c.index-next.result.now in
    let lt : end < length next = omega (arith, c.requires.end, c.requires.next) in
    let same : number_at next end ≡ x = get_or_default next end 0 x lt ∙ sym c.index-next.ensures in
    subst (λ (k : ℕ). IsOnWay heads end far first c.push.new.self.items k) same
    (walk_begins heads end far next c.requires.nearer first c.push.new.self.items
    (c.in_ok-push.ensures.items ∙ ap (λ (xs : List Request). xs ++ first ∷ []) c.new-ring.ensures.items)
    c.requires.first c.requires.some)

pub index-next-requires-in-loop-next : goal.index-next-requires-in-loop-next
index-next-requires-in-loop-next c =
    let lt = c.loop-next.invariant.within in omega (arith, lt, c.requires.next, c.args.noted.now.next.ok.0)

pub loop-next-smaller : goal.loop-next-smaller
loop-next-smaller c =
    let heads = c.args.heads.now in
    let far = c.args.noted.now.far.items in
    let ring = c.loop-next.ring.items in
    let new = c.push-in-loop-next.new.self.items in
    let k = c.loop-next.next in
    let w = walk_goes_on heads c.args.end far c.args.noted.now.next.items c.requires.nearer c.args.first ring k
    c.loop-next.invariant c.loop-next-test.true in
    let short = w.short in
    let long = length-append ring (request_at heads k ∷ []) in
    let count : length new ≡ length (ring ++ request_at heads k ∷ []) = ap length c.in_ok-push-2.ensures.items in
    let less : number_at far c.args.end - length new < number_at far c.args.end - length ring =
    omega (arith, short, long, count) in less

pub loop-next-preserved : goal.loop-next-preserved
loop-next-preserved c =
    let heads = c.args.heads.now in
    let end = c.args.end in
    let first = c.args.first in
    let far = c.args.noted.now.far.items in
    let next = c.args.noted.now.next.items in
    let ring = c.loop-next.ring.items in
    let k = c.loop-next.next in
    let x = c.index-next-in-loop-next.result.now in
    let within = c.loop-next.invariant.within in
    let lt : k < length next = omega (arith, within, c.requires.next) in
    let same : number_at next k ≡ x = get_or_default next k 0 x lt ∙ sym c.index-next-in-loop-next.ensures in
    subst (λ (xs : List Request). IsOnWay heads end far first xs x) (sym c.in_ok-push-2.ensures.items)
    (subst (λ (j : ℕ). IsOnWay heads end far first (ring ++ request_at heads k ∷ []) j) same
    (walk_goes_on heads end far next c.requires.nearer first ring k c.loop-next.invariant c.loop-next-test.true))

pub returns-clause-walk : goal.returns-clause-walk
returns-clause-walk c =
    walk_ends c.args.heads.now c.args.end c.args.noted.now.far.items c.args.noted.now.next.items c.requires.nearer
    c.args.first c.loop-next.ring.items c.loop-next.next c.loop-next.invariant c.loop-next-test.false c.requires.first

pub returns-clause-short : goal.returns-clause-short
returns-clause-short c = let le = c.loop-next.invariant.short in omega (arith, le)
