use Rattle.std.proofs.Common.{◌≡◌, ◌++◌, length, map}
use Rattle.source_marks.specs.Marks.{lines_of}
use Rattle.report_pages.specs.reading.Seen.{bytes_seen}
use Rattle.report_pages.proofs.lines.lines_of.Given as goal

abbrev pub invariant-loop-lines : goal.invariant-loop-lines
invariant-loop-lines l = lines_of l.text ≡ map bytes_seen l.lines.items ++ lines_of l.rest

abbrev pub decreases-loop-lines : goal.decreases-loop-lines
decreases-loop-lines l = length l.rest
