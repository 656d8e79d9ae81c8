use Rattle.tm_numbers.proofs.Divisibility.{is_by_remainder}
use Rattle.tm_numbers.proofs.laws.remainder.Goals as goal

pub returns : goal.returns
returns c = is_by_remainder
