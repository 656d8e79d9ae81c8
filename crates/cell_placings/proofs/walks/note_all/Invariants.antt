use Rattle.std.proofs.Common.{take}
use Rattle.cell_placings.specs.reading.Walks.{AreNoted}
use Rattle.cell_placings.proofs.walks.note_all.Given as goal

abbrev pub invariant-loop-cell : goal.invariant-loop-cell
invariant-loop-cell l = AreNoted (take l.cell-index l.cells) l.time l.next l.seen l.initial.histories l.histories
