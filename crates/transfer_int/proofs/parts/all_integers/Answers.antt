use Rattle.transfer_int.proofs.Spans.{any_class}
use Rattle.transfer_int.proofs.parts.all_integers.Goals as goal

pub returns : goal.returns
returns c = any_class
