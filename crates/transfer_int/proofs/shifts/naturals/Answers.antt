use Rattle.std.proofs.Common.{arith}
use Rattle.std.proofs.lemmas.Int.{ints}
use Rattle.transfer_int.proofs.Placing.{ends_of}
use Rattle.transfer_int.proofs.Shifting.{naturals_are}
use Rattle.transfer_int.proofs.shifts.naturals.Goals as goal

pub returns : goal.returns
returns c =
    naturals_are _ _ _ _ _ c.requires (omega (arith, ints)) (omega (arith, ints, c.hi.ensures, ends_of c.args.ty)) c.part.ensures
