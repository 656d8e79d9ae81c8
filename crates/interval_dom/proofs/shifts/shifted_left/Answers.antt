use Rattle.interval_dom.proofs.Ranges.{code_shift_left}
use Rattle.interval_dom.proofs.shifts.shifted_left.Goals as goal

pub returns : goal.returns
returns c = code_shift_left _ _ c.requires.low c.requires.high c.requires.count_low c.requires.count_high
