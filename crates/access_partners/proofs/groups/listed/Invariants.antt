use Rattle.access_partners.specs.reading.Found.{AreListedDetails}
use Rattle.access_partners.proofs.groups.listed.Given as goal

abbrev pub invariant-loop-at : goal.invariant-loop-at
invariant-loop-at l = AreListedDetails l.ways l.lists l.partners l.at l.details.items
