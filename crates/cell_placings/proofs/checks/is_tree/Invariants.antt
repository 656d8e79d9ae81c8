use Rattle.std.proofs.Common.{ℕ, ◌<◌}
use Rattle.cell_placings.specs.OwnerTrees.{tree_of}
use Rattle.cell_placings.specs.Checks.{IsBelowAnother}
use Rattle.cell_placings.proofs.checks.is_tree.Given as goal

abbrev pub invariant-loop-node : goal.invariant-loop-node
invariant-loop-node l = (n : ℕ) → 0 < n → n < l.node → IsBelowAnother l.nodes (tree_of l.owners) n
