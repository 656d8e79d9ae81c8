use Rattle.sound_tables.proofs.Entrances.{tasks_enter}
use Rattle.sound_tables.proofs.laws.tasks_enter.Goals as goal

pub returns : goal.returns
returns c = tasks_enter
