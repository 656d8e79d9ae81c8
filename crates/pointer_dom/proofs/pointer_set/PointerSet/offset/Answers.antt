use Rattle.std.proofs.Common.{◌≡◌, pos, ap, ◌∙◌, arith}
use Rattle.std.specs.Int.{w128}
use Rattle.std.proofs.lemmas.Int.{ints, to_z-of_z}
use Rattle.strided_dom.specs.Progression.{single}
use Rattle.pointer_dom.proofs.StepFacts.{one_short, one_exactly, advance_is}
use Rattle.pointer_dom.proofs.pointer_set.PointerSet.offset.Goals as goal

pub advanced_objects-requires : goal.advanced_objects-requires
advanced_objects-requires c =
    one_short c.args.cells c.one.result (c.one.ensures ∙ ap single (to_z-of_z w128 c.from.result (omega (arith, ints, c.from.ensures, c.ranges.cells)) ∙ c.from.ensures)) (omega (arith, c.ranges.cells))

pub returns : goal.returns
returns c =
    let one = one_exactly c.args.cells c.one.result (c.one.ensures ∙ ap single (to_z-of_z w128 c.from.result (omega (arith, ints, c.from.ensures, c.ranges.cells)) ∙ c.from.ensures)) in
    advance_is (λ step. step ≡ pos c.args.cells) c.one.result one c.args.self.now c.objects.result.now c.objects.ensures.value c.in_ok-objects.objects c.from_parts.result c.in_ok-objects.ensures.objects c.from_parts.ensures
