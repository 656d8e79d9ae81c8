use Rattle.edge_contributions.specs.reading.Bounds.{HaveSameBounds}
use Rattle.edge_contributions.proofs.joins.joined_in_rounds.Given as goal

abbrev pub invariant-loop-round : goal.invariant-loop-round
invariant-loop-round g l = HaveSameBounds g.V.Lattice.is_value g.V.Lattice.leq l.fn.parts.items l.left.items
