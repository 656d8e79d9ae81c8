use Rattle.std.proofs.Common.{◌≡◌, ◌++◌, take}
use Rattle.page_pieces.specs.Pieces.{escaped}
use Rattle.page_pieces.proofs.pieces.push_said.Given as goal

abbrev pub invariant-loop-byte : goal.invariant-loop-byte
invariant-loop-byte l = l.page.items ≡ l.initial.page.items ++ escaped (take l.byte-index l.said)
