use Rattle.sound_runs.proofs.Lowered.{lowered}
use Rattle.sound_runs.proofs.laws.graphs_are_lowered.Goals as goal

pub returns : goal.returns
returns c = lowered
