use Rattle.std.proofs.Common.{◌≡◌, ℕ, ◌<◌, get_or, true}
use Rattle.text_choices.specs.reading.Words.{is_no_blank}
use Rattle.text_choices.proofs.library_names.word_length.Given as goal

abbrev pub invariant-loop-i : goal.invariant-loop-i
invariant-loop-i l = (k : ℕ) → k < l.i → is_no_blank (get_or l.text k 0) ≡ true
