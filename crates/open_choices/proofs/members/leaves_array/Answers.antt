use Rattle.std.proofs.Common.{pos, ◌+ℤ◌, ◌≤ℤ◌, ◌<ℤ◌, sym, subst, ◌∙◌, arith}
use Rattle.std.proofs.lemmas.Int.{ints}
use Rattle.strided_dom.specs.Progression.{Has}
use Rattle.operand_orders.specs.reading.Views.{solved}
use Rattle.open_choices.proofs.Searching.{is_found, not_found, not_so}
use Rattle.open_choices.proofs.Numbers.{no_steps, leaves_high, leaves_end, stays}
use Rattle.open_choices.proofs.Standing.{stood}
use Rattle.open_choices.proofs.members.leaves_array.Goals as goal

pub returns-then-is_empty : goal.returns-then-is_empty
returns-then-is_empty c =
    not_found (no_steps (solved c.args.view) c.args.object c.args.target c.args.array c.args.offset c.args.steps.now
    (c.is_empty.ensures.0 c.if-is_empty.true))

pub returns-then-end-at : goal.returns-then-end-at
returns-then-end-at c =
    let low = c.hi.ensures.in_reach.low in
    let high = c.hi.ensures.in_reach.high in
    let more : pos c.args.array.end <ℤ (pos c.args.offset +ℤ c.hi.result) =
    omega (arith, ints, c.if-end-at.true, c.from-at.ensures, c.from-end.ensures, low, high) in
    is_found (leaves_high (solved c.args.view) c.args.object c.args.target c.args.array c.args.offset c.args.steps.now
    c.hi.result c.hi.ensures.greatest.member more)

pub returns-then-not-has : goal.returns-then-not-has
returns-then-not-has c =
    let lo-low = c.lo.ensures.in_reach.low in
    let lo-high = c.lo.ensures.in_reach.high in
    let hi-low = c.hi.ensures.in_reach.low in
    let hi-high = c.hi.ensures.in_reach.high in
    let low : pos c.args.array.begin ≤ℤ (pos c.args.offset +ℤ c.lo.result) =
    omega (arith, ints, c.if-at-lo.false, c.from-at.ensures, lo-low, lo-high) in
    let high : (pos c.args.offset +ℤ c.hi.result) ≤ℤ pos c.args.array.end =
    omega (arith, ints, c.if-end-at.false, c.from-at.ensures, c.from-end.ensures, hi-low, hi-high) in
    not_found (stays (solved c.args.view) c.args.object c.args.target c.args.array c.args.offset c.args.steps.now
    c.lo.result c.hi.result c.lo.ensures.least c.hi.ensures.greatest low high (λ step has at there.
    not_so c.has.result c.has.ensures c.if-not-has.true
    (subst (λ v. Has c.args.steps.now v) (omega (arith, ints, at, c.from-at.ensures, c.from-end.ensures)) has)))

pub returns : goal.returns
returns c =
    let lo-low = c.lo.ensures.in_reach.low in
    let lo-high = c.lo.ensures.in_reach.high in
    let hi-low = c.hi.ensures.in_reach.low in
    let hi-high = c.hi.ensures.in_reach.high in
    let low : pos c.args.array.begin ≤ℤ (pos c.args.offset +ℤ c.lo.result) =
    omega (arith, ints, c.if-at-lo.false, c.from-at.ensures, lo-low, lo-high) in
    let high : (pos c.args.offset +ℤ c.hi.result) ≤ℤ pos c.args.array.end =
    omega (arith, ints, c.if-end-at.false, c.from-at.ensures, c.from-end.ensures, hi-low, hi-high) in (
      λ e. leaves_end (solved c.args.view) c.args.object c.args.target c.args.array c.args.offset c.args.steps.now _
          (c.has.ensures.0 c.if-not-has.false) (omega (arith, ints, c.from-at.ensures, c.from-end.ensures))
          (sym c.stands_at.ensures ∙ e),
      λ h. c.stands_at.ensures
          ∙ stood (solved c.args.view) c.args.object c.args.target c.args.array c.args.offset c.args.steps.now
          c.lo.result c.hi.result c.lo.ensures.least c.hi.ensures.greatest low high h,
    )
