use Rattle.interval_dom.proofs.Bits.{bits_of_xor, type_xor}
use Rattle.interval_dom.proofs.Guarded.{xor_holds, xor_grows, xor_stands}
use Rattle.interval_dom.proofs.laws.xor.Goals as goal

pub returns : goal.returns
returns c = record { bits = bits_of_xor; types = type_xor; stands = xor_stands; holds = xor_holds; grows = xor_grows }
