use Rattle.std.proofs.Common.{◌<◌, ◌^◌, ℕ, get_or, arith}
use Rattle.std.proofs.lemmas.Int.{ints}
use Rattle.thresholds.specs.Thresholds.{of_given}
use Rattle.thresholds.proofs.Parts.{part_more, parts_end}
use Rattle.thresholds.proofs.Steps.{two_more, number_read, opposite_read}
use Rattle.thresholds.proofs.lists.push_given.Goals as goal

pub loop-number-preserved : goal.loop-number-preserved
loop-number-preserved c =
    let n : ℕ = get_or c.args.given.now c.loop-number.number-index 0 in
    let lt : n < 2 ^ 127 = omega (arith, ints, c.from-number.type_inv, c.from-number.ensures) in (
      part_more of_given c.args.given.now c.loop-number.number-index 0 c.loop-number.ends.items _ _
          c.loop-number-test.true c.loop-number.invariant.0
          (two_more _ _ _ _ _ _ _ c.in_ok-push.ensures.items c.in_ok-push-2.ensures.items
          (number_read n c.from-number.result lt c.from-number.ensures)
          (opposite_read n c.from-number.result lt c.from-number.ensures)),
      c.in_ok-push-2.ensures.reach,
    )

pub returns-clause-items : goal.returns-clause-items
returns-clause-items c =
    parts_end of_given c.args.given.now c.loop-number.number-index c.loop-number.ends.items _
    c.loop-number-test.false c.loop-number.invariant.0
