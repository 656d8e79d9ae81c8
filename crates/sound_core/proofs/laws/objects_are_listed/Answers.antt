use Rattle.sound_core.proofs.Listed.{is_listed}
use Rattle.sound_core.proofs.laws.objects_are_listed.Goals as goal

pub returns : goal.returns
returns c = is_listed
