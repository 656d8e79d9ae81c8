use Rattle.sound_foundations.proofs.Truths.{told_truths}
use Rattle.sound_foundations.proofs.laws.truths_are_told.Goals as goal

pub returns : goal.returns
returns c = told_truths
