use Rattle.std.proofs.Common.{map, take}
use Rattle.edge_origins.specs.reading.Edges.{edge_at, ArePut}
use Rattle.edge_origins.proofs.edges.put_edges.Given as goal

-- those so far
abbrev pub invariant-loop-edge : goal.invariant-loop-edge
invariant-loop-edge l =
    ArePut l.initial.origins.items l.origins.items (map (edge_at l.start.path l.start.at) (take l.edge-index l.edges))
