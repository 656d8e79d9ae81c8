use Rattle.std.proofs.Common.{◌≡◌, take}
use Rattle.access_partners.specs.reading.Pairs.{kept_by}
use Rattle.access_partners.proofs.partners.chosen.Given as goal

abbrev pub invariant-loop-at : goal.invariant-loop-at
invariant-loop-at l = l.chosen.items ≡ kept_by (take l.at l.pairs) (take l.at l.accesses)
