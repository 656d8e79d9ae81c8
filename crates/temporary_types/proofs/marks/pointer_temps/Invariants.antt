use Rattle.std.proofs.Common.{◌≡◌, take}
use Rattle.temporary_types.specs.PointerMarks.{pointer_marks}
use Rattle.temporary_types.proofs.marks.pointer_temps.Given as goal

abbrev pub invariant-loop-number : goal.invariant-loop-number
invariant-loop-number l = l.marks.items ≡ pointer_marks (take l.number l.graph.edges.items) l.fn.count
