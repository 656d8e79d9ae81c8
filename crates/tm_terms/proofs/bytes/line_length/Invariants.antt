use Rattle.std.proofs.Common.{◌≡◌, ℕ, ◌<◌, get_or, true}
use Rattle.tm_terms.specs.Splices.{is_in_line}
use Rattle.tm_terms.proofs.bytes.line_length.Given as goal

abbrev pub invariant-loop-i : goal.invariant-loop-i
invariant-loop-i l = (k : ℕ) → k < l.i → is_in_line (get_or l.text k 0) ≡ true
