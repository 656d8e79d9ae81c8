use Rattle.sound_foundations.proofs.Founded.{complements_work}
use Rattle.sound_foundations.proofs.laws.complements_are_promoted.Goals as goal

pub returns : goal.returns
returns c = complements_work
