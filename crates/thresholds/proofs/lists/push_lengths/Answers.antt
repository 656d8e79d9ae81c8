use Rattle.std.proofs.Common.{◌<◌, ◌^◌, ℕ, get_or, arith}
use Rattle.std.proofs.lemmas.Int.{ints}
use Rattle.thresholds.specs.Thresholds.{of_length}
use Rattle.thresholds.proofs.Parts.{part_more, parts_end}
use Rattle.thresholds.proofs.Steps.{two_more, number_read, less_read}
use Rattle.thresholds.proofs.lists.push_lengths.Goals as goal

pub loop-length-preserved : goal.loop-length-preserved
loop-length-preserved c =
    let n : ℕ = get_or c.args.lengths.now c.loop-length.length-index 0 in
    let lt : n < 2 ^ 127 = omega (arith, ints, c.from-length.type_inv, c.from-length.ensures) in (
      part_more of_length c.args.lengths.now c.loop-length.length-index 0 c.loop-length.ends.items _ _
          c.loop-length-test.true c.loop-length.invariant.0
          (two_more _ _ _ _ _ _ _ c.in_ok-push.ensures.items c.in_ok-push-2.ensures.items
          (number_read n c.from-length.result lt c.from-length.ensures)
          (less_read n c.from-length.result lt c.from-length.ensures)),
      c.in_ok-push-2.ensures.reach,
    )

pub returns-clause-items : goal.returns-clause-items
returns-clause-items c =
    parts_end of_length c.args.lengths.now c.loop-length.length-index c.loop-length.ends.items _
    c.loop-length-test.false c.loop-length.invariant.0
