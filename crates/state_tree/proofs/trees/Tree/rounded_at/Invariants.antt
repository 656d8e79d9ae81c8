use Rattle.std.proofs.Common.{◌≡◌, take}
use Rattle.tm_lattice.specs.Tables.{selected_table}
use Rattle.state_tree.proofs.trees.Tree.rounded_at.Given as goal

-- the values at the keys so far are rounded
abbrev pub invariant-loop-key : goal.invariant-loop-key
invariant-loop-key g l = l.outer ≡ selected_table (g.V.Lattice.rounded l.marks) (take l.key-index l.keys) l.self
