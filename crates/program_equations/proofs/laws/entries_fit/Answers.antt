use Rattle.program_equations.specs.laws.TaskEntries.{given_fits, first_fits, task_entry_fits, task_entry_rises}
use Rattle.program_equations.proofs.laws.entries_fit.Goals as goal

pub returns : goal.returns
returns c = record { given = given_fits; first = first_fits; later = task_entry_fits; rise = task_entry_rises }
