use Rattle.std.proofs.Common.{◌≡◌, take}
use Rattle.std.specs.List.{flat_map}
use Rattle.tm_laid.specs.Layouts.{laid_tree}
use Rattle.edge_origins.specs.reading.Gathered.{falls_on}
use Rattle.edge_origins.proofs.falls.falls_of.Given as goal

-- those of the paths so far
abbrev pub invariant-loop-start : goal.invariant-loop-start
invariant-loop-start l = l.to.items ≡ flat_map (falls_on (laid_tree l.laid) l.notes) (take l.start-index l.starts)
