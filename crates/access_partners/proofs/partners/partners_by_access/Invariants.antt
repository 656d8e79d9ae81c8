use Rattle.access_partners.specs.reading.Pairs.{ArePartnersBy}
use Rattle.access_partners.proofs.partners.partners_by_access.Given as goal

abbrev pub invariant-loop-at : goal.invariant-loop-at
invariant-loop-at l = ArePartnersBy l.accesses l.points l.at l.all.items
