use Rattle.std.proofs.Common.{◌≡◌, ◌+◌, ◌≤◌, drop}
use Rattle.refusal_hints.specs.Places.{offset_from, offset_of}
use Rattle.refusal_hints.proofs.places.offset_of.Given as goal

abbrev pub invariant-loop-i : goal.invariant-loop-i
invariant-loop-i l = record {
  value : offset_of l.text l.place ≡ offset_from l.i l.at l.place (drop l.i l.text);
  line : l.at.line ≤ 1 + l.i;
  col : l.at.col ≤ 1 + l.i;
}
