use Rattle.std.proofs.Common.{take}
use Rattle.tm_laid.specs.Layouts.{laid_tree}
use Rattle.edge_actions.specs.Layouts.{is_shared_cell}
use Rattle.memory_effects.specs.reading.Changes.{IsWrittenAt}
use Rattle.memory_effects.proofs.contributions.written_cells.Given as goal

abbrev pub invariant-loop-cell : goal.invariant-loop-cell
invariant-loop-cell l = IsWrittenAt (is_shared_cell (laid_tree l.view.laid.now)) l.value (take l.cell-index l.cells) l.added
