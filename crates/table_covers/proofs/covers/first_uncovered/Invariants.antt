use Rattle.std.proofs.Common.{ℕ, ◌<◌}
use Rattle.table_covers.specs.Solutions.{at, IsEdgeCovered}
use Rattle.table_covers.proofs.covers.first_uncovered.Given as goal

abbrev pub invariant-loop-edge : goal.invariant-loop-edge
invariant-loop-edge g l = (e : ℕ) → e < l.edge → IsEdgeCovered g.E.State.Lattice (g.E.Equations.fits l.system) (g.E.Equations.system_of l.system) (at l.table) e
