use Rattle.std.proofs.Common.{◌≡◌, ◌<◌, ℕ, length, get_or, Some, None}
use Rattle.mutex_configs.specs.tm_laid.Layouts.{laid_tree}
use Rattle.entry_states.specs.program_equations.Readings.{read_layout}
use Rattle.entry_states.specs.program_equations.Entries.{first_state}
use Rattle.program_systems.proofs.beginnings.first_entries.Given as goal

abbrev pub invariant-loop-task : goal.invariant-loop-task
invariant-loop-task l = (length l.entries.items ≡ l.task)
    × ((t : ℕ) → t < l.task → get_or l.entries.items t None ≡ Some (first_state (read_layout (laid_tree l.program.laid)) t))
