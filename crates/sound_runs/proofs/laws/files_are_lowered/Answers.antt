use Rattle.sound_runs.proofs.Programs.{tasks_lowered, section_lowered}
use Rattle.sound_runs.proofs.laws.files_are_lowered.Goals as goal

pub returns : goal.returns
returns c = record { tasks = tasks_lowered; section = section_lowered }
