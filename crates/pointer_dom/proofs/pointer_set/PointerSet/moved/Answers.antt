use Rattle.strided_dom.specs.Combinations.{IsProduct}
use Rattle.pointer_dom.specs.Advances.{directed}
use Rattle.pointer_dom.proofs.StepFacts.{advance_is, stay_by, safe_is}
use Rattle.pointer_dom.proofs.pointer_set.PointerSet.moved.Goals as goal

pub returns-clause-pointers : goal.returns-clause-pointers
returns-clause-pointers c =
    advance_is (IsProduct c.args.counts.now (directed c.args.forward c.args.cells)) c.distances-steps.result c.distances-steps.ensures.distances c.args.self.now c.objects.result.now c.objects.ensures.value
    c.in_ok-objects.objects c.from_parts.result c.in_ok-objects.ensures.objects c.from_parts.ensures

pub returns-clause-class : goal.returns-clause-class
returns-clause-class c =
    let Step = IsProduct c.args.counts.now (directed c.args.forward c.args.cells) in
    let same = stay_by Step c.distances-steps.result c.distances-steps.ensures.distances c.args.self.now c.objects.result.now c.objects.ensures.value in
    let inside = c.in_ok-objects.ensures.inside in
    safe_is Step c.args.self.now c.has_null.result c.has_invalid.result c.in_ok-objects.inside c.has_null.ensures c.has_invalid.ensures
    (λ t. same.0 (inside.0 t), λ h. inside.1 (same.1 h))
