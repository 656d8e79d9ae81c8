use Rattle.interval_dom.proofs.Bits.{bits_of_and, type_and}
use Rattle.interval_dom.proofs.Guarded.{and_holds, and_grows, and_stands}
use Rattle.interval_dom.proofs.laws.and.Goals as goal

pub returns : goal.returns
returns c = record { bits = bits_of_and; types = type_and; stands = and_stands; holds = and_holds; grows = and_grows }
