use Rattle.std.proofs.Common.{take}
use Rattle.certificate_parts.specs.Runs.{IsRun}
use Rattle.certificate_parts.specs.Rows.{AnyMark, mark_after, mark_row}
use Rattle.certificate_parts.proofs.rows.marks_in.Given as goal

-- the lines of the keys so far
abbrev pub invariant-loop-key : goal.invariant-loop-key
invariant-loop-key l =
    IsRun (mark_row l.letters) AnyMark (mark_after l.letters) (take l.key-index l.keys) l.fn.ahead l.marks.items l.ahead
