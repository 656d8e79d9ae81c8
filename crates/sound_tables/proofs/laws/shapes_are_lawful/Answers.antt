use Rattle.sound_tables.proofs.Lawful.{shapes_lawful}
use Rattle.sound_tables.proofs.laws.shapes_are_lawful.Goals as goal

pub returns : goal.returns
returns c = shapes_lawful
