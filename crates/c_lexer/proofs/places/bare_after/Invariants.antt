use Rattle.std.proofs.Common.{◌≡◌, take}
use Rattle.tm_terms.specs.Spelling.{bare_after}
use Rattle.c_lexer.proofs.places.bare_after.Given as goal

abbrev pub invariant-loop-byte : goal.invariant-loop-byte
invariant-loop-byte l = l.so_far ≡ bare_after l.bare (take l.byte-index l.text)
