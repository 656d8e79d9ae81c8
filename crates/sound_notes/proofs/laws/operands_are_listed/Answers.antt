use Rattle.sound_notes.proofs.Told.{operands_listed}
use Rattle.sound_notes.proofs.laws.operands_are_listed.Goals as goal

pub returns : goal.returns
returns c = operands_listed
