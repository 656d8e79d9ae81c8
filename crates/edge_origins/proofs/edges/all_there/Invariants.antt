use Rattle.std.proofs.Common.{◌≡◌, Some, map, take}
use Rattle.edge_origins.proofs.edges.all_there.Given as goal

-- those so far are there
abbrev pub invariant-loop-origin : goal.invariant-loop-origin
invariant-loop-origin l = map Some l.found.items ≡ take l.origin-index l.origins
