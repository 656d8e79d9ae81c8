use Rattle.std.proofs.Common.{◌≡◌, ◌≤◌, ◌+◌, drop, length, filter}
use Rattle.tm_laid.specs.Layouts.{laid_tree}
use Rattle.mutex_configs.specs.Programs.{is_seen, seen_cells}
use Rattle.mutex_configs.proofs.programs.cells_seen.Given as goal

abbrev pub invariant-loop-cell : goal.invariant-loop-cell
invariant-loop-cell l =
    (l.count + length (filter (is_seen (laid_tree l.laid) l.body) (drop l.cell-index l.laid.abstract_cells.items)) ≡ seen_cells (laid_tree l.laid) l.body)
    × (l.count ≤ l.cell-index)
