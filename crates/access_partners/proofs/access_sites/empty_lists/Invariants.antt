use Rattle.access_partners.specs.reading.Search.{AreEmpty}
use Rattle.access_partners.proofs.access_sites.empty_lists.Given as goal

abbrev pub invariant-loop : goal.invariant-loop
invariant-loop l = AreEmpty l.lists.items l.counter
