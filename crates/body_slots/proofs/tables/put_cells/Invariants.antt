use Rattle.std.specs.Prelude.{drop}
use Rattle.least_assignments.specs.Constraints.{at as value_at}
use Rattle.body_slots.specs.reading.Tables.{AreKept}
use Rattle.body_slots.proofs.tables.put_cells.Given as goal

abbrev pub invariant-loop-cell : goal.invariant-loop-cell
invariant-loop-cell l = AreKept l.system (value_at l.values) l.node (drop l.cell-index l.list) l.cells
