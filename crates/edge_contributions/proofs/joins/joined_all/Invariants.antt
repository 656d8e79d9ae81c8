use Rattle.std.proofs.Common.{◌∷◌, take}
use Rattle.edge_contributions.specs.reading.Bounds.{IsLeastAbove}
use Rattle.edge_contributions.proofs.joins.joined_all.Given as goal

abbrev pub invariant-loop-at : goal.invariant-loop-at
invariant-loop-at g l =
    IsLeastAbove g.V.Lattice.is_value g.V.Lattice.leq (l.fn.more ∷ take l.at l.left.items) l.all
