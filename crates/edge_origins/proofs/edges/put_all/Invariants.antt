use Rattle.std.proofs.Common.{take}
use Rattle.std.specs.List.{flat_map}
use Rattle.edge_origins.specs.reading.Edges.{edges_on, ArePut}
use Rattle.edge_origins.proofs.edges.put_all.Given as goal

-- those of the paths so far
abbrev pub invariant-loop-start : goal.invariant-loop-start
invariant-loop-start l =
    ArePut l.initial.origins.items l.origins.items (flat_map (edges_on l.notes) (take l.start-index l.starts))
