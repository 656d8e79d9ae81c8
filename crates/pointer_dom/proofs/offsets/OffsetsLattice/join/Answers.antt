use Rattle.std.proofs.Common.{sym, ap₂, ◌∙◌, subst}
use Rattle.pointer_dom.specs.OffsetSets.{IsOffsetSet, joined_offsets}
use Rattle.pointer_dom.specs.laws.OffsetLaws.{offsets_join}
use Rattle.pointer_dom.proofs.OffsetFacts.{joined_is}
use Rattle.pointer_dom.proofs.offsets.OffsetsLattice.join.Goals as goal

pub invariant_of-result : goal.invariant_of-result
invariant_of-result c =
    subst (λ o. IsOffsetSet o)
    (sym (joined_is c.max.result c.self.inside.size c.other.inside.size c.self.inside.set c.other.inside.set c.hull.result c.max.ensures c.hull.ensures))
    (offsets_join.value _ _ c.self.invariant c.other.invariant)

pub returns : goal.returns
returns c =
    joined_is c.max.result c.self.inside.size c.other.inside.size c.self.inside.set c.other.inside.set c.hull.result c.max.ensures c.hull.ensures
    ∙ ap₂ joined_offsets c.self.view_is c.other.view_is
