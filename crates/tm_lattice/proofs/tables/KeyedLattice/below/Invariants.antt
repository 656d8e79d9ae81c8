use Rattle.std.proofs.Common.{◌+◌, ◌-◌, length}
use Rattle.tm_lattice.proofs.Comparing.{IsOpen}
use Rattle.tm_lattice.proofs.tables.KeyedLattice.below.Given as goal

abbrev pub invariant-loop-order : goal.invariant-loop-order
invariant-loop-order g l = IsOpen g.V.Lattice.leq l.one l.other l.i l.j

abbrev pub decreases-loop-order : goal.decreases-loop-order
decreases-loop-order g l = (length l.one - l.i) + (length l.other - l.j)
