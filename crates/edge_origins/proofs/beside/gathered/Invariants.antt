use Rattle.std.proofs.Common.{◌≡◌, take}
use Rattle.std.specs.List.{flat_map}
use Rattle.edge_origins.specs.reading.Gathered.{counted_on}
use Rattle.edge_origins.proofs.beside.gathered.Given as goal

-- what is noted of the paths so far
abbrev pub invariant-loop-start : goal.invariant-loop-start
invariant-loop-start g l =
    l.to.items ≡ flat_map (counted_on l.notes g.K.Beside.listed g.K.Beside.counted) (take l.start-index l.starts)
