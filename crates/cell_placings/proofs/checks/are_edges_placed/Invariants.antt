use Rattle.std.proofs.Common.{ℕ, ◌<◌}
use Rattle.cell_placings.specs.OwnerTrees.{tree_of}
use Rattle.cell_placings.specs.Checks.{IsEdgePlaced}
use Rattle.cell_placings.proofs.checks.are_edges_placed.Given as goal

abbrev pub invariant-loop-edge : goal.invariant-loop-edge
invariant-loop-edge l = (e : ℕ) → e < l.edge → IsEdgePlaced l.graph (tree_of l.owners) e
