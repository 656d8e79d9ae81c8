use Rattle.std.proofs.Common.{◌≡◌, ◌^◌, ℤ, pos, neg_ℤ, ◌*ℤ◌, ◌≤ℤ◌, arith}
use Rattle.std.proofs.lemmas.Int.{ints, clamps}
use Rattle.strided_dom.specs.Progression.{IsInReach}
use Rattle.strided_dom.proofs.Products.{mul_between}
use Rattle.engine_tests.proofs.strided_sets.products_of.Goals as goal

-- the product of a number of 64 bits and one of 32 is in reach
small : (x n v : ℤ) → v ≡ x *ℤ n → neg_ℤ (pos (2 ^ 63)) ≤ℤ x → x ≤ℤ pos (2 ^ 63) → neg_ℤ (pos (2 ^ 31)) ≤ℤ n → n ≤ℤ pos (2 ^ 31) → IsInReach v
small x n v e low high low' high' =
    let b = mul_between (neg_ℤ (pos (2 ^ 63))) (pos (2 ^ 63)) x n low high in
    record { low = omega (arith, ints, clamps, b.0); high = omega (arith, ints, clamps, b.1) }

pub times-requires : goal.times-requires
times-requires c = λ v p.
    small p.factor _ v p.product (c.set.ensures.low p.factor p.in_set) (c.set.ensures.high p.factor p.in_set)
    (omega (arith, ints, c.from.ensures)) (omega (arith, ints, c.from.ensures))
