use Rattle.std.proofs.Common.{◌≡◌, ℕ, ◌<◌, get_or, true}
use Rattle.tm_terms.specs.Lexis.{is_blank_in_line}
use Rattle.text_choices.proofs.pragmas.blanks.Given as goal

abbrev pub invariant-loop-i : goal.invariant-loop-i
invariant-loop-i l = (k : ℕ) → k < l.i → is_blank_in_line (get_or l.text k 0) ≡ true
