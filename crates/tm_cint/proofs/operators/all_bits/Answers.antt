use Rattle.std.proofs.lemmas.Nat.{or_lt}
use Rattle.tm_cint.specs.IntTypes.{width_of}
use Rattle.tm_cint.proofs.operators.all_bits.Goals as goal

pub from_bits-requires : goal.from_bits-requires
from_bits-requires c = or_lt (width_of c.args.ty) _ _ c.bits.ensures.in_width c.bits-2.ensures.in_width
