use Rattle.std.proofs.Common.{◌≡◌, ◌++◌, map, take}
use Rattle.edge_origins.proofs.beside.put_counted.Given as goal

-- those so far
abbrev pub invariant-loop-one : goal.invariant-loop-one
invariant-loop-one g l =
    l.to.items ≡ l.initial.to.items ++ map (g.K.Beside.counted l.at) (take l.one-index l.noted)
