use Rattle.sound_runs.proofs.KindSteps.{keeps_addresses}
use Rattle.sound_runs.proofs.laws.addresses_are_kept.Goals as goal

pub returns : goal.returns
returns c = keeps_addresses
