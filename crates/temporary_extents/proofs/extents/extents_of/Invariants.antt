use Rattle.std.proofs.Common.{◌≡◌, take}
use Rattle.temporary_extents.specs.Extents.{extents_of}
use Rattle.temporary_extents.proofs.extents.extents_of.Given as goal

abbrev pub invariant-loop-number : goal.invariant-loop-number
invariant-loop-number l = l.known.items ≡ extents_of (take l.number l.graph.edges.items) l.fn.count
