use Rattle.std.proofs.Common.{arith}
use Rattle.std.specs.Int.{w128}
use Rattle.std.proofs.lemmas.Int.{ints, to_z-of_z}
use Rattle.engine_tests.proofs.number_sets.set.Goals as goal

pub returns-clause-integers : goal.returns-clause-integers
returns-clause-integers c = λ n m.
    let q = c.range.ensures.sound n m in
    let low = to_z-of_z w128 c.from.result (omega (arith, ints, c.from.ensures)) in
    let high = to_z-of_z w128 c.from-2.result (omega (arith, ints, c.from-2.ensures)) in
    record { low = omega (arith, ints, q.from, low, c.from.ensures); high = omega (arith, ints, q.to, high, c.from-2.ensures) }
