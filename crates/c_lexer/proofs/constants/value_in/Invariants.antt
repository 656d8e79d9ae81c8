use Rattle.std.proofs.Common.{◌≡◌, ◌<◌, ◌^◌, take}
use Rattle.tm_terms.specs.Lexis.{value_in}
use Rattle.c_lexer.proofs.constants.value_in.Given as goal

abbrev pub invariant-loop-byte : goal.invariant-loop-byte
invariant-loop-byte l = (l.value ≡ value_in l.base (take l.byte-index l.digits)) × (l.value < 2 ^ 127)
