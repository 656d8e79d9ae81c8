use Rattle.std.proofs.Common.{◌≡◌, ◌++◌, get_or, pos, rules}
use Rattle.thresholds.specs.Thresholds.{of_constant}
use Rattle.thresholds.proofs.Parts.{part_more, parts_end}
use Rattle.thresholds.proofs.lists.push_constants.Goals as goal

pub loop-constant-preserved : goal.loop-constant-preserved
loop-constant-preserved c =
    let constants = c.args.constants.now in
    let at = c.loop-constant.constant-index in
    let old = c.loop-constant.ends.items in
    let new = c.push_constant.new.ends.items in
    let pushed : new ≡ old ++ of_constant (get_or constants at (pos 0)) = search (rules, c.well_formed) in (
      part_more of_constant constants at (pos 0) old new _ c.loop-constant-test.true c.loop-constant.invariant.0 pushed,
      c.in_ok-push_constant.ensures.reach,
    )

pub returns-clause-items : goal.returns-clause-items
returns-clause-items c =
    parts_end of_constant c.args.constants.now c.loop-constant.constant-index c.loop-constant.ends.items _
    c.loop-constant-test.false c.loop-constant.invariant.0
