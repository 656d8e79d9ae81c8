use Rattle.region_cells.specs.reading.Marks.{HasMarked}
use Rattle.region_cells.proofs.Marking.{IsPassed}
use Rattle.region_cells.proofs.covers.cover.Given as goal

abbrev pub invariant-loop-cell : goal.invariant-loop-cell
invariant-loop-cell l = HasMarked (IsPassed l.first l.end l.cell) l.initial.covered.items l.covered.items
