use Rattle.std.proofs.Common.{◌≡◌, drop}
use Rattle.std.specs.List.{list_all}
use Rattle.tm_laid.specs.Layouts.{laid_tree}
use Rattle.row_checks.specs.Passing.{is_shared_in}
use Rattle.row_checks.proofs.handed.are_shared_in.Given as goal

abbrev pub invariant-loop-cell : goal.invariant-loop-cell
invariant-loop-cell l =
    list_all (is_shared_in (laid_tree l.laid) l.set) (drop l.cell-index l.cells)
    ≡ list_all (is_shared_in (laid_tree l.laid) l.set) l.cells
