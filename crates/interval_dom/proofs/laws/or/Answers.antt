use Rattle.interval_dom.proofs.Bits.{bits_of_or, type_or}
use Rattle.interval_dom.proofs.Guarded.{or_holds, or_grows, or_stands}
use Rattle.interval_dom.proofs.laws.or.Goals as goal

pub returns : goal.returns
returns c = record { bits = bits_of_or; types = type_or; stands = or_stands; holds = or_holds; grows = or_grows }
