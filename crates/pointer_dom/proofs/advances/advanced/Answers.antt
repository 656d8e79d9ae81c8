use Rattle.std.proofs.Common.{sym, subst, arith}
use Rattle.strided_dom.specs.Progression.{IsHull, IsSubset}
use Rattle.strided_dom.specs.Combinations.{IsSum}
use Rattle.pointer_dom.specs.Offset.{IsOffsetAmong}
use Rattle.pointer_dom.specs.OffsetSets.{IsOffsetsOf}
use Rattle.pointer_dom.proofs.AdvanceFacts.{sum_in_reach, advanced_is, stay_is}
use Rattle.pointer_dom.proofs.advances.advanced.Goals.{After-below-inside}
use Rattle.pointer_dom.proofs.advances.advanced.Goals as goal

pub sum-sums-requires : goal.sum-sums-requires
sum-sums-requires c = sum_in_reach c.args.offsets.now c.set.result c.args.steps.now c.set.ensures.value c.set.ensures.within (omega (arith, c.size-size.ensures, c.size-size.type_inv)) c.requires

hull : (c : After-below-inside) → IsHull (IsSum c.args.offsets.now.offsets c.args.steps.now) c.sum-sums.result
hull c = subst (λ s. IsHull (IsSum s c.args.steps.now) c.sum-sums.result) c.set.ensures.value c.sum-sums.ensures

within : (c : After-below-inside) → IsOffsetsOf c.args.offsets.now.size (IsOffsetAmong c.args.offsets.now.size c.sum-sums.result) c.within-reached.result
within c = subst (λ n. IsOffsetsOf n (IsOffsetAmong n c.sum-sums.result) c.within-reached.result) c.size-size.ensures c.within-reached.ensures

pub returns-clause-offsets : goal.returns-clause-offsets
returns-clause-offsets c = advanced_is c.args.offsets.now c.args.steps.now c.sum-sums.result c.within-reached.result (hull c) (within c)

pub returns-clause-inside : goal.returns-clause-inside
returns-clause-inside c =
    let same = stay_is c.args.offsets.now c.args.steps.now c.sum-sums.result c.within-reached.result (hull c) (within c) in
    (λ e. same.0 (subst (λ s. IsSubset c.sum-sums.result s) c.set-2.ensures.value (c.below-inside.ensures.0 e)), λ h. c.below-inside.ensures.1 (subst (λ s. IsSubset c.sum-sums.result s) (sym c.set-2.ensures.value) (same.1 h)))
