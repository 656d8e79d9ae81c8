use Rattle.tm_cint.proofs.Values.{quotient_and_remainder}
use Rattle.tm_cint.proofs.laws.quotient_and_remainder_give_the_dividend.Goals as goal

pub returns : goal.returns
returns c = quotient_and_remainder
