use Rattle.std.proofs.Common.{sym, ap, ◌∙◌, subst}
use Rattle.pointer_dom.specs.OffsetSets.{IsOffsetSet, rounded_offsets}
use Rattle.pointer_dom.specs.laws.OffsetLaws.{offsets_closure}
use Rattle.pointer_dom.proofs.OffsetFacts.{rounded_is}
use Rattle.pointer_dom.proofs.offsets.OffsetsLattice.round.Goals as goal

pub invariant_of-result : goal.invariant_of-result
invariant_of-result c =
    subst (λ o. IsOffsetSet o)
    (sym (rounded_is c.args.marks.now c.self.inside.size c.self.inside.set c.round.result c.all_offsets.result c.meet.result c.round.ensures c.all_offsets.ensures c.meet.ensures))
    (offsets_closure.value c.args.marks.now _ tt c.self.invariant)

pub returns : goal.returns
returns c =
    rounded_is c.args.marks.now c.self.inside.size c.self.inside.set c.round.result c.all_offsets.result c.meet.result c.round.ensures c.all_offsets.ensures c.meet.ensures
    ∙ ap (rounded_offsets c.args.marks.now) c.self.view_is
