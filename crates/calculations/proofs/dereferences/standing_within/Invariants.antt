use Rattle.calculations.specs.reading.Ends.{Stands, IsStandingUpTo}
use Rattle.calculations.proofs.dereferences.standing_within.Given as goal

abbrev pub invariant-loop-offset : goal.invariant-loop-offset
invariant-loop-offset l = IsStandingUpTo (Stands l.followed l.object) l.offsets l.offset l.standing l.all
