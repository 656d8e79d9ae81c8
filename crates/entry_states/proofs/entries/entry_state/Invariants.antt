use Rattle.std.proofs.Common.{◌≡◌}
use Rattle.tm_laid.specs.Layouts.{laid_tree}
use Rattle.body_systems.specs.program_equations.Readings.{read_layout}
use Rattle.body_systems.specs.program_equations.Entries.{entry_cells}
use Rattle.entry_states.specs.reading.Holdings.{held_value}
use Rattle.entry_states.proofs.entries.entry_state.Given as goal

abbrev pub invariant-loop-cell : goal.invariant-loop-cell
invariant-loop-cell l = l.cells ≡ entry_cells (read_layout (laid_tree l.laid)) l.task (held_value l.holding) l.cell
