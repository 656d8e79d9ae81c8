use Rattle.std.proofs.Common.{◌≡◌, ◌≤◌, ◌+◌, ◌-◌, length, drop}
use Rattle.std.specs.Prelude.{bytes_eq}
use Rattle.std.specs.List.{list_any}
use Rattle.text_choices.specs.reading.Words.{words_of}
use Rattle.text_choices.proofs.library_names.is_among.Given as goal

abbrev pub invariant-loop-at : goal.invariant-loop-at
invariant-loop-at l = record {
  within : l.at ≤ length l.words + 1;
  same : list_any (bytes_eq l.name) (words_of l.words) ≡ list_any (bytes_eq l.name) (words_of (drop l.at l.words));
}

abbrev pub decreases-loop-at : goal.decreases-loop-at
decreases-loop-at l = length l.words - l.at
