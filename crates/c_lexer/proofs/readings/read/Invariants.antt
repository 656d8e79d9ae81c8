use Rattle.std.proofs.Common.{◌+◌, ◌-◌, ◌≤◌, length, vec_len}
use Rattle.c_lexer.specs.reading.Kept.{Stands}
use Rattle.c_lexer.proofs.readings.read.Given as goal

abbrev pub invariant-loop-at : goal.invariant-loop-at
invariant-loop-at l = record {
  within : l.at ≤ length l.bytes;
  line : l.place.line ≤ l.at + 1;
  col : l.place.col ≤ l.at + 1;
  counted : 1 ≤ l.place.col;
  few : vec_len l.tokens ≤ l.most + 1;
  stands : Stands l.most l.bytes l.at l.place l.bare l.tokens.items;
}

abbrev pub decreases-loop-at : goal.decreases-loop-at
decreases-loop-at l = length l.initial.bytes - l.at
