use Rattle.std.proofs.Common.{◌≡◌, ◌↔◌, ◌+◌, ◌-◌, ◌≤◌, take, drop, subst, arith}
use Rattle.std.specs.Prelude.{Contains}
use Rattle.operand_orders.proofs.Elements.{IsInPart, in_part}
use Rattle.operand_orders.proofs.Halving.{part_is}
use Rattle.operand_orders.proofs.pairs.between.Goals as goal

pub returns-then-from-to : goal.returns-then-from-to
returns-then-from-to c = λ p.
    let pairs = c.args.pairs.now in
    let from = c.first_not_before-from.result in
    let to = c.first_not_before-to.result in
    let low = c.first_not_before-from.ensures in
    let high = c.first_not_before-to.ensures in
    let ordered : from ≤ to = c.if-from-to.true in
    let all : from + (to - from) ≡ to = omega (arith, ordered) in
    let most = high.within in
    let part = subst (λ n. Contains (take (to - from) (drop from pairs)) p ↔ IsInPart pairs from n p) all
    (in_part pairs from (to - from) (omega (arith, ordered, most)) p) in
    let is = part_is pairs c.args.first c.args.end from to low high ordered p in
    (λ h. is.0 (part.0 h), λ h. part.1 (is.1 h))
