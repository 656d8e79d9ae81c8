use Rattle.std.proofs.Common.{arith}
use Rattle.std.proofs.lemmas.Int.{ints}
use Rattle.transfer_int.proofs.Inside.{unspaced}
use Rattle.transfer_int.proofs.Placing.{ends_of}
use Rattle.transfer_int.proofs.bits.all_values.Goals as goal

pub returns : goal.returns
returns c =
    let e = ends_of c.args.ty in
    unspaced _ _ _ _
    (λ v l h. record { at_least = omega (arith, ints, l, c.lo.ensures, e); at_most = omega (arith, ints, h, c.hi.ensures, e) })
    (λ v p. (omega (arith, ints, p.at_least, c.lo.ensures, e), omega (arith, ints, p.at_most, c.hi.ensures, e)))
    c.range.ensures
