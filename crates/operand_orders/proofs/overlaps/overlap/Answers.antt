use Rattle.operand_orders.proofs.Pairing.{overlap_back}
use Rattle.operand_orders.proofs.overlaps.overlap.Goals as goal

pub returns-else-has_fewer : goal.returns-else-has_fewer
returns-else-has_fewer c =
    let t = c.args.touches.now in
    let one = c.args.first in
    let other = c.args.second in
    let found = c.does_overlap-else-has_fewer.ensures in
    (λ h. overlap_back t other one (found.0 h), λ d. found.1 (overlap_back t one other d))
