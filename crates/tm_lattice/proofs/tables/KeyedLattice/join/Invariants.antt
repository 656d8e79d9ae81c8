use Rattle.std.proofs.Common.{◌≡◌, ◌+◌, ◌-◌, ◌++◌, length, drop}
use Rattle.tm_lattice.proofs.Merging.{merged}
use Rattle.tm_lattice.proofs.tables.KeyedLattice.join.Given as goal

abbrev pub invariant-loop-order : goal.invariant-loop-order
invariant-loop-order g l = l.both.items ++ merged g.V.Lattice.joined (drop l.i l.one) (drop l.j l.other) ≡ merged g.V.Lattice.joined l.one l.other

abbrev pub decreases-loop-order : goal.decreases-loop-order
decreases-loop-order g l = (length l.one - l.i) + (length l.other - l.j)
