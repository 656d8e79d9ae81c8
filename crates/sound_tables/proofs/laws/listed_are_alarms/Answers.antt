use Rattle.sound_tables.proofs.Lawful.{listed_alarms}
use Rattle.sound_tables.proofs.laws.listed_are_alarms.Goals as goal

pub returns : goal.returns
returns c = listed_alarms
