use Rattle.std.proofs.Common.{◌≡◌, ℕ, ◌<◌, length, get_or, true, None}
use Rattle.table_covers.specs.Solutions.{at, gathered}
use Rattle.table_covers.proofs.covers.arrivals.Given as goal

abbrev pub invariant-loop-edge : goal.invariant-loop-edge
invariant-loop-edge g l =
    (length l.arrived.items ≡ (g.E.Equations.system_of l.system).node_count)
    × ((n : ℕ) → n < (g.E.Equations.system_of l.system).node_count → (g.E.Equations.system_of l.system).heads n ≡ true → get_or l.arrived.items n None ≡ gathered g.E.State.Lattice (g.E.Equations.fits l.system) (g.E.Equations.system_of l.system) l.edge n (at l.table))
