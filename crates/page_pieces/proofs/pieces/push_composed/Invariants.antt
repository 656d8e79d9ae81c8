use Rattle.std.proofs.Common.{◌≡◌, ◌++◌, take}
use Rattle.page_pieces.specs.Composed.{composed}
use Rattle.page_pieces.specs.Pieces.{page_text}
use Rattle.page_pieces.proofs.pieces.push_composed.Given as goal

abbrev pub invariant-loop-byte : goal.invariant-loop-byte
invariant-loop-byte l = l.page.items ≡ l.initial.page.items ++ page_text (composed (take l.byte-index l.text))
