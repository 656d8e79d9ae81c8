use Rattle.std.proofs.Common.{arith}
use Rattle.std.proofs.lemmas.Int.{ints}
use Rattle.transfer_int.proofs.BitSets.{value_reaches}
use Rattle.transfer_int.proofs.Inside.{unspaced}
use Rattle.transfer_int.proofs.bits.numbers.Goals as goal

pub range-requires-clause-in_reach : goal.range-requires-clause-in_reach
range-requires-clause-in_reach c = λ v p.
    value_reaches c.args.ty v (c.requires v (record { low = omega (arith, ints, p.from); high = omega (arith, ints, p.to) }))

pub returns : goal.returns
returns c =
    unspaced _ _ _ _ (λ v l h. record { low = omega (arith, ints, l); high = omega (arith, ints, h) }) (λ v p. (omega (arith, ints, p.low), omega (arith, ints, p.high))) c.range.ensures
