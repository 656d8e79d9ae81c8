use Rattle.std.proofs.Common.{◌∙◌, arith}
use Rattle.std.specs.Int.{w128}
use Rattle.std.proofs.lemmas.Int.{ints, to_z-of_z}
use Rattle.pointer_dom.proofs.StepFacts.{elements_in_reach, elements_exactly, elements_short}
use Rattle.pointer_dom.proofs.addresses.element_steps.Goals as goal

pub times-requires : goal.times-requires
times-requires c = elements_in_reach c.args.count c.args.cells c.args.subscripts.now c.args.all.now c.meet.result _ (omega (arith, c.ranges.count)) (omega (arith, c.ranges.cells)) c.requires c.meet.ensures
    (to_z-of_z w128 c.from.result (omega (arith, ints, c.from.ensures, c.ranges.cells)) ∙ c.from.ensures)

pub returns-clause-steps : goal.returns-clause-steps
returns-clause-steps c = elements_exactly c.args.count c.args.cells c.args.subscripts.now c.args.all.now c.meet.result _ (omega (arith, c.ranges.count)) (omega (arith, c.ranges.cells)) c.requires c.meet.ensures
    (to_z-of_z w128 c.from.result (omega (arith, ints, c.from.ensures, c.ranges.cells)) ∙ c.from.ensures) c.times.result c.times.ensures

pub returns-clause-short : goal.returns-clause-short
returns-clause-short c = elements_short c.args.count c.args.cells c.args.subscripts.now c.args.all.now c.meet.result _ (omega (arith, c.ranges.count)) (omega (arith, c.ranges.cells)) c.requires c.meet.ensures
    (to_z-of_z w128 c.from.result (omega (arith, ints, c.from.ensures, c.ranges.cells)) ∙ c.from.ensures) c.times.result c.times.ensures
