use Rattle.sound_notes.proofs.Locked.{locks_stop}
use Rattle.sound_notes.proofs.laws.locks_stop.Goals as goal

pub returns : goal.returns
returns c = locks_stop
