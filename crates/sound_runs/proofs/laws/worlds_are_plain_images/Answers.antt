use Rattle.sound_runs.proofs.WithoutSection.{plainly_imaged}
use Rattle.sound_runs.proofs.laws.worlds_are_plain_images.Goals as goal

pub returns : goal.returns
returns c = plainly_imaged
