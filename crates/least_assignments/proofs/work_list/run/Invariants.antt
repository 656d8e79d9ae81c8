use Rattle.least_assignments.specs.Constraints.{at, IsPointwiseBelow}
use Rattle.least_assignments.specs.Solutions.{AreRound, AreDoneOrPending, IsLeastAbove}
use Rattle.least_assignments.specs.reading.WorkLists.{left}
use Rattle.least_assignments.proofs.work_list.run.Given as goal

abbrev pub invariant-loop-constraint : goal.invariant-loop-constraint
invariant-loop-constraint g l =
    AreRound g.C.Value.Lattice (g.C.ConstraintSystem.fits l.system) (g.C.ConstraintSystem.allows l.system)
    (g.C.ConstraintSystem.system_of l.system) (at l.values)
    × AreDoneOrPending g.C.Value.Lattice (g.C.ConstraintSystem.fits l.system) (g.C.ConstraintSystem.allows l.system)
    (g.C.ConstraintSystem.system_of l.system) (at l.values) l.pending
    × IsPointwiseBelow (g.C.ConstraintSystem.system_of l.system) g.C.Value.Lattice.leq (at l.fn.values) (at l.values)
    × IsLeastAbove g.C.Value.Lattice (g.C.ConstraintSystem.fits l.system) (g.C.ConstraintSystem.allows l.system)
    (g.C.ConstraintSystem.system_of l.system) (at l.fn.values) (at l.values)

abbrev pub decreases-loop-constraint : goal.decreases-loop-constraint
decreases-loop-constraint g l = left g.C.Value.Lattice (g.C.ConstraintSystem.fits l.system)
    (g.C.ConstraintSystem.allows l.system) (g.C.ConstraintSystem.system_of l.system) l.values l.pending
