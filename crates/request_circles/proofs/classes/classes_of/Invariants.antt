use Rattle.request_circles.specs.reading.Classes.{AreClasses}
use Rattle.request_circles.proofs.classes.classes_of.Given as goal

abbrev pub invariant-loop-number : goal.invariant-loop-number
invariant-loop-number l = AreClasses l.requests l.heads.items l.numbers.items l.number
