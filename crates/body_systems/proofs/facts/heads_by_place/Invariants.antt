use Rattle.body_systems.proofs.Indices.{HaveIndices}
use Rattle.body_systems.proofs.facts.heads_by_place.Given as goal

abbrev pub invariant-loop-index : goal.invariant-loop-index
invariant-loop-index l = HaveIndices l.places l.heads l.index l.indices.items
