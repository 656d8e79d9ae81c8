use Rattle.std.proofs.Common.{take}
use Rattle.access_groups.specs.reading.Merging.{AreMerged}
use Rattle.access_groups.proofs.merging.merged.Given as goal

abbrev pub invariant-loop-access : goal.invariant-loop-access
invariant-loop-access l = AreMerged (take l.access-index l.access-items) l.merged.items
