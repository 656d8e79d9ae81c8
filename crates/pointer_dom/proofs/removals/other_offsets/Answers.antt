use Rattle.std.proofs.Common.{◌∙◌, arith}
use Rattle.std.specs.Int.{w128}
use Rattle.std.proofs.lemmas.Int.{ints, to_z-of_z}
use Rattle.pointer_dom.proofs.RemovalFacts.{left_elsewhere, left_here}
use Rattle.pointer_dom.proofs.removals.other_offsets.Goals as goal

pub returns-then-key-object : goal.returns-then-key-object
returns-then-key-object c =
    left_here c.args.object c.args.offset c.args.key c.size-size.result c.args.offsets.now c.within.result c.set-set.result c.without.result _ c.set-set.ensures.within c.if-key-object.true c.size-size.ensures c.set-set.ensures.value
    (to_z-of_z w128 c.from.result (omega (arith, ints, c.from.ensures, c.ranges.offset)) ∙ c.from.ensures) c.without.ensures c.within.ensures

pub returns-else-key-object : goal.returns-else-key-object
returns-else-key-object c = left_elsewhere c.args.object c.args.offset c.args.key c.args.offsets.now c.set-set.ensures.within c.if-key-object.false
