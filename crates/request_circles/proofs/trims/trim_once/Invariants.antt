use Rattle.request_circles.specs.reading.Trims.{IsTrimmed}
use Rattle.request_circles.proofs.trims.trim_once.Given as goal

abbrev pub invariant-loop-number : goal.invariant-loop-number
invariant-loop-number l = IsTrimmed l.requests l.initial.left.marks.items l.left.marks.items l.trimmed
