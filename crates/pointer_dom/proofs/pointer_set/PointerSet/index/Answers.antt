use Rattle.pointer_dom.specs.Advances.{IsElementStep}
use Rattle.pointer_dom.proofs.StepFacts.{advance_is, subscripts_below}
use Rattle.pointer_dom.proofs.pointer_set.PointerSet.index.Goals as goal

pub returns-clause-pointers : goal.returns-clause-pointers
returns-clause-pointers c =
    advance_is (IsElementStep c.args.count c.args.cells c.args.subscripts.now) c.element_steps-steps.result c.element_steps-steps.ensures.steps c.args.self.now c.objects.result.now c.objects.ensures.value
    c.in_ok-objects.objects c.from_parts.result c.in_ok-objects.ensures.objects c.from_parts.ensures

pub returns-clause-class : goal.returns-clause-class
returns-clause-class c = subscripts_below c.args.count c.args.subscripts.now c.all_subscripts-all.result c.below.result c.all_subscripts-all.ensures c.below.ensures
