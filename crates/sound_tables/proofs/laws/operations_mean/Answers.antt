use Rattle.sound_tables.proofs.Entrances.{operations_mean}
use Rattle.sound_tables.proofs.laws.operations_mean.Goals as goal

pub returns : goal.returns
returns c = operations_mean
