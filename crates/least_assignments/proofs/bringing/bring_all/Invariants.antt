use Rattle.std.proofs.Common.{◌≡◌, ℕ, ◌≤◌, length, get_or, None}
use Rattle.least_assignments.specs.Constraints.{at}
use Rattle.least_assignments.specs.reading.WorkLists.{IsRise, HoldsBelow}
use Rattle.least_assignments.proofs.bringing.bring_all.Given as goal

-- the values of the numbers before were brought, and the others stand where they stood
abbrev pub invariant-loop-j : goal.invariant-loop-j
invariant-loop-j g l =
    IsRise g.C.Value.Lattice (g.C.ConstraintSystem.fits l.system) (g.C.ConstraintSystem.allows l.system)
    (g.C.ConstraintSystem.system_of l.system)
    (HoldsBelow g.C.Value.Lattice (g.C.ConstraintSystem.fits l.system) (g.C.ConstraintSystem.allows l.system)
    (g.C.ConstraintSystem.system_of l.system) l.j l.targets (at l.fn.brought.items)) l.fn.values l.fn.pending l.values l.pending
    × (length l.brought.items ≡ length l.fn.brought.items)
    × ((n : ℕ) → l.j ≤ n → get_or l.brought.items n None ≡ get_or l.fn.brought.items n None)
