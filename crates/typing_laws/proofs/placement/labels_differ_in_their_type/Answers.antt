use Rattle.typing_laws.proofs.Labels.{labels_differ}
use Rattle.typing_laws.proofs.placement.labels_differ_in_their_type.Goals as goal

pub returns : goal.returns
returns c = labels_differ
