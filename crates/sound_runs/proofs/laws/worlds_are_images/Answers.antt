use Rattle.sound_runs.proofs.Imaged.{imaged}
use Rattle.sound_runs.proofs.laws.worlds_are_images.Goals as goal

pub returns : goal.returns
returns c = imaged
