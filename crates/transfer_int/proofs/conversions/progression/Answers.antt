use Rattle.std.proofs.Common.{◌≡◌, pos, ◌+ℤ◌, to_z, of_z, arith}
use Rattle.std.specs.Int.{w128}
use Rattle.std.proofs.lemmas.Int.{ints, to_z-of_z}
use Rattle.std.proofs.lemmas.Nat.Gcd.{le_of_dvd}
use Rattle.transfer_int.proofs.Placing.{one_number, not_zero_divisor, respaced}
use Rattle.transfer_int.proofs.conversions.progression.Goals as goal

pub returns-then-extent-eq0 : goal.returns-then-extent-eq0
returns-then-extent-eq0 c = one_number c.args.low c.args.extent c.args.stride c.one.result c.if-extent-eq0.true (rw (to_z-of_z _ _ c.ranges.low) at c.one.ensures)

pub overflow_cast-stride : goal.overflow_cast-stride
overflow_cast-stride c =
    let n = le_of_dvd (omega (arith, c.if-extent-eq0.false)) c.requires.congruent in
    omega (arith, ints, n, c.requires.from, c.requires.to)

pub range-requires-clause-positive : goal.range-requires-clause-positive
range-requires-clause-positive c =
    let n = le_of_dvd (omega (arith, c.if-extent-eq0.false)) c.requires.congruent in
    let p = not_zero_divisor c.args.stride c.args.extent c.if-extent-eq0.false c.requires.congruent in
    omega (arith, ints, n, p, c.requires.from, c.requires.to)

pub returns : goal.returns
returns c =
    let n = le_of_dvd (omega (arith, c.if-extent-eq0.false)) c.requires.congruent in
    let from = c.requires.from in
    let to = c.requires.to in
    let low = to_z-of_z _ _ c.ranges.low in
    let above : to_z w128 c.args.extent ≡ pos c.args.extent = omega (arith, ints, from, to) in
    let high = to_z-of_z w128 (c.args.low +ℤ pos c.args.extent) (omega (arith, ints, from, to)) in
    let end : to_z w128 (of_z w128 (to_z w128 (of_z w128 c.args.low) +ℤ to_z w128 c.args.extent)) ≡ c.args.low +ℤ pos c.args.extent = rw (low, above) high in
    respaced _ _ _ _ _ _ _ low end (omega (arith, ints, n, from, to)) c.range.ensures
