use Rattle.table_covers.specs.Solutions.{at, IsStarted}
use Rattle.least_tables.specs.Settling.{IsMetOrPending, IsLeastAbove, IsVisited}
use Rattle.least_tables.specs.reading.WorkLists.{left, AreFollowed}
use Rattle.least_tables.proofs.work_list.run.Given as goal

abbrev pub invariant-loop-edge : goal.invariant-loop-edge
invariant-loop-edge g l =
    IsStarted g.E.State.Lattice (g.E.Equations.fits l.system) (g.E.Equations.system_of l.system) (at l.table)
    × IsMetOrPending g.E.State.Lattice (g.E.Equations.fits l.system) (g.E.Equations.system_of l.system) (at l.table) l.pending
    × IsLeastAbove g.E.State.Lattice (g.E.Equations.fits l.system) (g.E.Equations.system_of l.system) (at l.initial.table) (at l.table)
    × AreFollowed g.E.State.Lattice (g.E.Equations.fits l.system) (g.E.Equations.system_of l.system) (at l.table) l.followed
    × IsVisited g.E.State.Lattice (g.E.Equations.fits l.system) (g.E.Equations.system_of l.system) l.visits (at l.initial.table) (at l.table)

abbrev pub decreases-loop-edge : goal.decreases-loop-edge
decreases-loop-edge g l = left g.E.State.Lattice (g.E.Equations.fits l.system) (g.E.Equations.system_of l.system) l.table l.pending
