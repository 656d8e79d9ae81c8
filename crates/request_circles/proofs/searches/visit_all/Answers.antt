use Rattle.std.proofs.Common.{◌≡◌, ℕ, ◌<◌, length, arith}
use Rattle.request_circles.specs.reading.Steps.{IsStepLeft}
use Rattle.request_circles.proofs.Searching.{visits_as, visits_more}
use Rattle.request_circles.proofs.searches.visit_all.Goals as goal

pub loop-to-preserved : goal.loop-to-preserved
loop-to-preserved c =
    visits_more (IsStepLeft c.args.requests.now c.args.left.now.marks.items c.args.ahead c.args.from) c.loop-to.to
    c.args.reached.now.marks.items c.loop-to.reached.marks.items c.visit.new.reached.marks.items
    c.args.waiting.now.items c.loop-to.waiting.items c.visit.new.waiting.items c.loop-to.invariant
    c.in_ok-visit.ensures

pub returns : goal.returns
returns c =
    let Step : ℕ → Type 0 = IsStepLeft c.args.requests.now c.args.left.now.marks.items c.args.ahead c.args.from in
    let end : c.loop-to.to ≡ length c.args.requests.now = omega arith in
    visits_as (λ k. (k < c.loop-to.to) × Step k) Step (λ k t. t.1)
    (λ k s. (let h = s.step in let lt = h.other in omega (arith, lt, end), s)) c.args.reached.now.marks.items
    c.loop-to.reached.marks.items c.args.waiting.now.items c.loop-to.waiting.items c.loop-to.invariant
