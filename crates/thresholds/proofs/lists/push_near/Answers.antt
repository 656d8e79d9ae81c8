use Rattle.std.proofs.Common.{◌≡◌, ℤ, pos, ◌+ℤ◌, ◌-ℤ◌, to_z, of_z, arith}
use Rattle.std.specs.Int.{w128}
use Rattle.std.proofs.lemmas.Int.{ints, to_z-of_z}
use Rattle.std.proofs.lemmas.Result.{on_ok_weaker}
use Rattle.thresholds.proofs.Steps.{four_more, sum_read}
use Rattle.thresholds.proofs.lists.push_near.Goals as goal

pub returns-clause-items : goal.returns-clause-items
returns-clause-items c =
    let n : ℤ = c.args.number in
    let low = c.requires.low in
    let high = c.requires.high in
    let same : to_z w128 (of_z w128 n) ≡ n = to_z-of_z w128 n (omega (arith, ints, low, high)) in
    on_ok_weaker c.push-4.result
    (λ last. four_more _ _ _ _ _ _ _ _ _ _ _ _ _ c.in_ok-push.ensures.items c.in_ok-push-2.ensures.items
    c.in_ok-push-3.ensures.items last
    (sum_read (λ v. v -ℤ pos 1) _ n same (omega (arith, ints, low, high))) same
    (sum_read (λ v. v +ℤ pos 1) _ n same (omega (arith, ints, low, high)))
    (sum_read (λ v. pos 0 -ℤ v) _ n same (omega (arith, ints, low, high)))) c.push-4.ensures.items
