use Rattle.std.proofs.Common.{◌+◌, ◌-◌, ◌≤◌, length}
use Rattle.text_choices.specs.reading.Pragmas.{Passes}
use Rattle.text_choices.proofs.pragmas.add_pragmas.Given as goal

abbrev pub invariant-loop-at : goal.invariant-loop-at
invariant-loop-at l = record {
  within : l.at ≤ length l.bytes;
  line : l.place.line ≤ l.at + 1;
  col : l.place.col ≤ l.at + 1;
  counted : 1 ≤ l.place.col;
  passes : Passes l.bytes l.at l.place l.bare l.initial.choices.items l.choices.items;
}

abbrev pub decreases-loop-at : goal.decreases-loop-at
decreases-loop-at l = length l.initial.bytes - l.at
