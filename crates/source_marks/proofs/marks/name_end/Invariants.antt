use Rattle.std.proofs.Common.{◌≡◌, drop, false}
use Rattle.source_marks.specs.Marks.{name_end}
use Rattle.source_marks.proofs.marks.name_end.Given as goal

abbrev pub invariant-loop-i : goal.invariant-loop-i
invariant-loop-i l = name_end 0 false l.text ≡ name_end l.i l.escaped (drop l.i l.text)
