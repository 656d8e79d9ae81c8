use Rattle.std.proofs.Common.{◌≡◌, ℕ, ◌<◌, get_or, true}
use Rattle.c_lexer.specs.reading.Runs.{belongs}
use Rattle.c_lexer.proofs.runs.run_length.Given as goal

abbrev pub invariant-loop-i : goal.invariant-loop-i
invariant-loop-i l = (k : ℕ) → k < l.i → belongs l.run (get_or l.text k 0) ≡ true
