use Rattle.tm_laid.specs.Layouts.{laid_tree}
use Rattle.body_systems.specs.program_equations.Readings.{read_layout}
use Rattle.entry_states.specs.reading.Joining.{AreJoinedBelow}
use Rattle.entry_states.proofs.initial.initial_values.Given as goal

abbrev pub invariant-loop-cell : goal.invariant-loop-cell
invariant-loop-cell l = AreJoinedBelow (read_layout (laid_tree l.laid)) l.cell l.values.items
