use Rattle.next_action_laws.proofs.RegularFiles.{initial_values_fit}
use Rattle.next_action_laws.proofs.laws.initial_values_fit.Goals as goal

pub returns : goal.returns
returns c = initial_values_fit
