use Rattle.std.proofs.Common.{◌≡◌, ◌++◌, map, take}
use Rattle.edge_origins.specs.reading.Gathered.{fall_by}
use Rattle.edge_origins.proofs.falls.put_falls.Given as goal

-- those so far
abbrev pub invariant-loop-fall : goal.invariant-loop-fall
invariant-loop-fall l = l.to.items ≡ l.initial.to.items ++ map (fall_by l.place l.at) (take l.fall-index l.falls)
