use Rattle.std.proofs.Common.{◌≡◌, ℕ, ◌<◌, true, get_or}
use Rattle.cell_placings.specs.OwnerTrees.{tree_of, owns_in}
use Rattle.cell_placings.proofs.checks.are_owned.Given as goal

abbrev pub invariant-loop-cell : goal.invariant-loop-cell
invariant-loop-cell l =
    (k : ℕ) → k < l.cell-index → owns_in (tree_of l.owners) l.node (get_or l.cells k 0) ≡ true
