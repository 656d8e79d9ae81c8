use Rattle.transfer_rows.proofs.Examples.{example}
use Rattle.transfer_rows.proofs.rises.premises_are_met.Goals as goal

pub returns : goal.returns
returns c = example
