use Rattle.std.proofs.Common.{◌≡◌, ◌+◌, ◌≤◌, take}
use Rattle.tm_terms.specs.Spelling.{place_after}
use Rattle.c_lexer.proofs.places.place_after.Given as goal

abbrev pub invariant-loop-byte : goal.invariant-loop-byte
invariant-loop-byte l = record {
  value : l.here ≡ place_after l.fn.place (take l.byte-index l.text);
  line : l.here.line ≤ l.fn.place.line + l.byte-index;
  col : l.here.col ≤ l.fn.place.col + l.byte-index;
  counted : 1 ≤ l.here.col;
}
