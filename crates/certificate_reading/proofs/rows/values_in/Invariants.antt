use Rattle.std.proofs.Common.{take}
use Rattle.tm_laid.specs.Layouts.{laid_tree}
use Rattle.post_recheck.specs.state_fits.Kinds.{InExtents}
use Rattle.certificate_parts.specs.Runs.{IsRun}
use Rattle.certificate_reading.specs.Rows.{value_row, FitsRow, AnyText}
use Rattle.certificate_reading.proofs.rows.values_in.Given as goal

-- the lines of the keys so far
abbrev pub invariant-loop-key : goal.invariant-loop-key
invariant-loop-key l =
    IsRun (value_row l.letters) (FitsRow (InExtents (laid_tree l.laid) l.extents)) AnyText (take l.key-index l.keys)
    l.fn.ahead l.values.items l.ahead
