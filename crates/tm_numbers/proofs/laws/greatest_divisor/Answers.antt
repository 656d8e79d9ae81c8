use Rattle.tm_numbers.proofs.Gcds.{is_greatest}
use Rattle.tm_numbers.proofs.laws.greatest_divisor.Goals as goal

pub returns : goal.returns
returns c = is_greatest
