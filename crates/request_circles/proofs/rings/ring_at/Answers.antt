use Rattle.std.proofs.Common.{◌≡◌, length, subst, ℕ, arith}
use Rattle.request_circles.specs.reading.Nearest.{IsNearestAt}
use Rattle.request_circles.proofs.Walking.{nearest_at_none}
use Rattle.request_circles.proofs.rings.ring_at.Goals as goal

pub loop-number-init : goal.loop-number-init
loop-number-init c =
    nearest_at_none c.args.requests.now c.args.classes.now.heads.items c.args.classes.now.numbers.items
    c.args.left.now.marks.items c.args.place c.new-best.result.items c.new-best.ensures.items

pub returns : goal.returns
returns c =
    let end : c.loop-number.number ≡ length c.args.requests.now = omega arith in
    subst (λ (n : ℕ). IsNearestAt c.args.requests.now c.args.classes.now.heads.items c.args.classes.now.numbers.items
    c.args.left.now.marks.items c.args.place n c.loop-number.best.items) end c.loop-number.invariant
