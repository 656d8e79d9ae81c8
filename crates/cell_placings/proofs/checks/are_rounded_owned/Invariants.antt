use Rattle.std.proofs.Common.{◌≡◌, ℕ, ◌<◌, true}
use Rattle.cell_placings.specs.CellLists.{is_in, cells_at}
use Rattle.cell_placings.specs.OwnerTrees.{tree_of, owns_in}
use Rattle.cell_placings.proofs.checks.are_rounded_owned.Given as goal

abbrev pub invariant-loop-node : goal.invariant-loop-node
invariant-loop-node l =
    (n x : ℕ) → n < l.node → is_in (cells_at l.graph.rounded.items n) x ≡ true
    → owns_in (tree_of l.owners) n x ≡ true
