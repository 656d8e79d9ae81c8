use Rattle.std.proofs.Common.{◌≡◌, ℕ, ◌<◌, get_or, true}
use Rattle.tm_terms.specs.Splices.{is_blank_in_line}
use Rattle.source_marks.proofs.lines.blanks.Given as goal

abbrev pub invariant-loop-i : goal.invariant-loop-i
invariant-loop-i l = (k : ℕ) → k < l.i → is_blank_in_line (get_or l.line k 0) ≡ true
