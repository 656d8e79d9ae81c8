use Rattle.std.proofs.Common.{◌≡◌, ◌++◌, drop}
use Rattle.place_details.specs.TextLines.{starts_behind, starts_of}
use Rattle.place_details.proofs.lines.line_starts.Given as goal

abbrev pub invariant-loop-i : goal.invariant-loop-i
invariant-loop-i l = starts_of l.text ≡ l.starts.items ++ starts_behind l.i (drop l.i l.text)
