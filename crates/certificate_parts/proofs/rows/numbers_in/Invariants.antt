use Rattle.std.proofs.Common.{take}
use Rattle.certificate_parts.specs.Runs.{IsRun}
use Rattle.certificate_parts.specs.Numbers.{FitsNumber, number_after, number_row}
use Rattle.certificate_parts.proofs.rows.numbers_in.Given as goal

-- the lines of the keys so far
abbrev pub invariant-loop-key : goal.invariant-loop-key
invariant-loop-key l =
    IsRun (number_row l.letters) (FitsNumber l.allowed) (number_after l.letters) (take l.key-index l.keys) l.fn.ahead
    l.numbers.items l.ahead
