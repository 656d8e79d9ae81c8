use Rattle.std.proofs.Common.{◌≡◌, ℕ, sym, subst}
use Rattle.std.proofs.lemmas.Result.{on_ok_weaker}
use Rattle.request_circles.specs.reading.Steps.{IsStepLeft}
use Rattle.request_circles.proofs.Searching.{visits_as}
use Rattle.request_circles.proofs.searches.visit.Goals as goal

pub returns : goal.returns
returns c =
    let Step : ℕ → Type 0 = IsStepLeft c.args.requests.now c.args.left.now.marks.items c.args.ahead c.args.from in
    let to = c.args.to in
    let here : Step to = c.is_step.ensures.0 c.if-not-is_step.false in
    on_ok_weaker c.note.result
    (λ h. visits_as (λ k. k ≡ to) (λ k. (k ≡ to) × Step k) (λ k e. (e, subst Step (sym e) here)) (λ k t. t.0)
    c.args.reached.now.marks.items c.note.new.reached.marks.items c.args.waiting.now.items c.note.new.waiting.items h)
    c.note.ensures
