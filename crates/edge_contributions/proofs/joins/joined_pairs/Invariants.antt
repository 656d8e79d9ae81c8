use Rattle.std.proofs.Common.{take, ◌*◌}
use Rattle.edge_contributions.specs.reading.Bounds.{HaveSameBounds}
use Rattle.edge_contributions.proofs.joins.joined_pairs.Given as goal

-- the joins so far are of the values so far
abbrev pub invariant-loop-at : goal.invariant-loop-at
invariant-loop-at g l = HaveSameBounds g.V.Lattice.is_value g.V.Lattice.leq (take (2 * l.at) l.parts) l.pairs.items
