use Rattle.sound_tables.proofs.Lawful.{pairs_cover}
use Rattle.sound_tables.proofs.laws.pairs_cover.Goals as goal

pub returns : goal.returns
returns c = pairs_cover
