use Rattle.access_partners.specs.reading.Pairs.{ArePairs}
use Rattle.access_partners.proofs.pairs.pairs_of.Given as goal

abbrev pub invariant-loop-other : goal.invariant-loop-other
invariant-loop-other l = ArePairs l.accesses l.points l.at l.other l.known.items
