use Rattle.std.proofs.Common.{◌≡◌, ◌++◌, map, take}
use Rattle.edge_origins.specs.reading.Starts.{start_by}
use Rattle.edge_origins.proofs.starts.put_called.Given as goal

-- those of the calls so far
abbrev pub invariant-loop-call : goal.invariant-loop-call
invariant-loop-call l = l.to.items ≡ l.initial.to.items ++ map (start_by l.at) (take l.call-index l.calls)
