use Rattle.std.proofs.Common.{◌≡◌, sym, ◌∙◌, true, false}
use Rattle.request_circles.proofs.Marks.{no_more}
use Rattle.request_circles.proofs.Trimming.{loose, loose_empty}
use Rattle.request_circles.proofs.trims.is_loose.Goals as goal
use Rattle.request_circles.proofs.trims.is_loose.Goals.{then-has_step, else-has_step}

pub returns-then-requests-number-eq0 : goal.returns-then-requests-number-eq0
returns-then-requests-number-eq0 c = λ t.
    loose_empty c.args.requests.now c.args.left.now.marks.items c.requires.left c.args.number
    (c.has.ensures.0 c.if-not-has.false) c.if-requests-number-eq0.true

pub returns : goal.returns
returns c = λ t.
    loose c.args.requests.now c.args.left.now.marks.items c.requires.left c.args.number
    (c.has.ensures.0 c.if-not-has.false)
    (λ a b. elim c.if-has_step.branch [
      | then-has_step w ↦ no_more c.if-has_step.result t (w.result-is ∙ w.has_step-then-has_step.ensures.1 a)
      | else-has_step w ↦ absurd (let one = c.has_step.ensures.1 b in
          let clash : false ≡ true = sym w.if-has_step.false ∙ one in cc)
    ])
