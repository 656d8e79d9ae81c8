use Rattle.std.proofs.Common.{take}
use Rattle.tm_laid.specs.Layouts.{laid_tree}
use Rattle.edge_effects.specs.calculations.transfer_rows.Rows.{joining}
use Rattle.edge_actions.specs.Layouts.{is_shared_cell}
use Rattle.memory_effects.proofs.Changing.{IsChangedAmong}
use Rattle.memory_effects.proofs.writes.with_joined.Given as goal

abbrev pub invariant-loop-target : goal.invariant-loop-target
invariant-loop-target l =
    IsChangedAmong (λ key c. joining (is_shared_cell (laid_tree l.view.laid.now) key) l.view.held l.value c) l.cells (take l.target-index l.targets) l.after
