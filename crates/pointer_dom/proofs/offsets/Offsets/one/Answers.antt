use Rattle.std.proofs.Common.{arith, ap, ◌∙◌}
use Rattle.std.specs.Int.{w128}
use Rattle.std.proofs.lemmas.Int.{ints, to_z-of_z}
use Rattle.strided_dom.specs.Progression.{single}
use Rattle.pointer_dom.proofs.OffsetFacts.{one_is}
use Rattle.pointer_dom.proofs.offsets.Offsets.one.Goals as goal

pub invariant_of-result : goal.invariant_of-result
invariant_of-result c =
    one_is c.args.size c.args.offset c.one.result (c.one.ensures ∙ ap single (to_z-of_z w128 c.from.result (omega (arith, ints, c.from.ensures)) ∙ c.from.ensures)) c.requires
