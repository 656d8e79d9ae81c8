use Rattle.std.proofs.Common.{take}
use Rattle.access_partners.specs.Lists.{AreEach}
use Rattle.access_partners.specs.reading.Found.{AreFoundOf}
use Rattle.access_partners.proofs.groups.all_details.Given as goal

abbrev pub invariant-loop-at : goal.invariant-loop-at
invariant-loop-at l = AreEach (AreFoundOf l.ways l.by_object) (take l.at l.groups) l.details.items
