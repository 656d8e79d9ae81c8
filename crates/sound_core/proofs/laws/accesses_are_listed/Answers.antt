use Rattle.sound_core.proofs.GroupedAccesses.{accesses_listed}
use Rattle.sound_core.proofs.laws.accesses_are_listed.Goals as goal

pub returns : goal.returns
returns c = accesses_listed
