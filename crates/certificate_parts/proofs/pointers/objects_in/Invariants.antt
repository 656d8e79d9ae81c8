use Rattle.std.proofs.Common.{◌≡◌, ◌≤◌, ◌-◌, length, drop}
use Rattle.std.specs.FinMap.{entries}
use Rattle.certificate_words.specs.Lines.{words_of}
use Rattle.certificate_parts.specs.Risings.{AreFrontEntries, behind_last}
use Rattle.certificate_parts.specs.Objects.{object_onto, FitsObject, IsNoWord}
use Rattle.certificate_parts.proofs.pointers.objects_in.Given as goal

-- the objects so far, and the words behind them
abbrev pub invariant-loop-at : goal.invariant-loop-at
invariant-loop-at l = record {
  front : AreFrontEntries object_onto (FitsObject l.sizes) IsNoWord (words_of l.words) (entries l.objects)
      (words_of (drop l.at l.words));
  next : l.bound ≡ behind_last object_onto (FitsObject l.sizes) IsNoWord 0 (entries l.objects);
  within : l.at ≤ length l.words;
}

abbrev pub decreases-loop-at : goal.decreases-loop-at
decreases-loop-at l = length l.words - l.at
