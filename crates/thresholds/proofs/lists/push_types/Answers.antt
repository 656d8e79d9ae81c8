use Rattle.std.proofs.Common.{◌∙◌, arith}
use Rattle.std.specs.Int.{w128}
use Rattle.std.proofs.lemmas.Int.{ints, to_z-of_z}
use Rattle.tm_cint.specs.declared.int_types.IntType.TheVariants as Ints
use Rattle.thresholds.specs.Thresholds.{ends_of}
use Rattle.thresholds.proofs.Parts.{part_more, parts_end}
use Rattle.thresholds.proofs.Steps.{two_more}
use Rattle.thresholds.proofs.lists.push_types.Goals as goal

pub loop-of-preserved : goal.loop-of-preserved
loop-of-preserved c = (
  part_more ends_of c.args.types.now c.loop-of.of-index Ints.Bool c.loop-of.ends.items _ _ c.loop-of-test.true
      c.loop-of.invariant.0
      (two_more _ _ _ _ _ _ _ c.in_ok-push.ensures.items c.in_ok-push-2.ensures.items
      (to_z-of_z w128 c.lo.result (omega (arith, ints, c.lo.type_inv)) ∙ c.lo.ensures)
      (to_z-of_z w128 c.hi.result (omega (arith, ints, c.hi.type_inv)) ∙ c.hi.ensures)),
  c.in_ok-push-2.ensures.reach,
)

pub returns-clause-items : goal.returns-clause-items
returns-clause-items c =
    parts_end ends_of c.args.types.now c.loop-of.of-index c.loop-of.ends.items _ c.loop-of-test.false c.loop-of.invariant.0
