use Rattle.least_assignments.proofs.Marking.{AreMarked}
use Rattle.least_assignments.proofs.pending.mark.Given as goal

abbrev pub invariant-loop-j : goal.invariant-loop-j
invariant-loop-j l = AreMarked l.constraints l.fn.pending l.pending l.j
