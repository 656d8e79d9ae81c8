use Rattle.table_covers.specs.Solutions.{at}
use Rattle.table_covers.specs.Passes.{added_below}
use Rattle.edge_contributions.specs.reading.Bounds.{AddTo}
use Rattle.edge_contributions.proofs.contributions.contributions.Given as goal

-- what the edges so far contribute
abbrev pub invariant-loop-edge : goal.invariant-loop-edge
invariant-loop-edge g l =
    let nothing = g.C.Contributions.nothing_added l.system in
    AddTo g.C.Added.Lattice.is_value g.C.Added.Lattice.leq nothing (added_below (g.C.Equations.system_of l.system).links
    nothing (g.C.Contributions.contributed l.system) g.C.Added.Lattice.joined l.edge (at l.table)) l.parts.items
