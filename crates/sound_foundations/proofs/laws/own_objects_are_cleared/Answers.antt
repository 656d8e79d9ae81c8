use Rattle.sound_foundations.proofs.Founded.{owns_cleared}
use Rattle.sound_foundations.proofs.laws.own_objects_are_cleared.Goals as goal

pub returns : goal.returns
returns c = owns_cleared
