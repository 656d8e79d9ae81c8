use Rattle.access_partners.proofs.Racing.{NoneOf}
use Rattle.access_partners.proofs.meeting.meets.Given as goal

abbrev pub invariant-loop-at : goal.invariant-loop-at
invariant-loop-at l = NoneOf l.way l.cell l.other l.points l.at
