use Rattle.sound_notes.proofs.Always.{always_ends}
use Rattle.sound_notes.proofs.laws.always_ends.Goals as goal

pub returns : goal.returns
returns c = always_ends
