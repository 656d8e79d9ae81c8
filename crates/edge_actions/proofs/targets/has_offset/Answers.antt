use Rattle.std.proofs.Common.{◌∙◌, arith}
use Rattle.std.specs.Int.{w128}
use Rattle.std.proofs.lemmas.Int.{ints, to_z-of_z}
use Rattle.edge_actions.proofs.LeadingCells.{offset_test}
use Rattle.edge_actions.proofs.targets.has_offset.Goals as goal

pub returns : goal.returns
returns c =
    offset_test c.args.offsets.now.offsets c.set.result c.has.result _ c.args.offset c.set.ensures.value
    (to_z-of_z w128 c.from.result (omega (arith, ints, c.from.ensures, c.ranges.offset.fits)) ∙ c.from.ensures) c.has.ensures
