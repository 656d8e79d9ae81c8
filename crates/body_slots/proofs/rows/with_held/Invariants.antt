use Rattle.std.proofs.Common.{◌≡◌, ◌++◌, take}
use Rattle.body_slots.specs.Rows.{held_among}
use Rattle.body_slots.proofs.rows.with_held.Given as goal

abbrev pub invariant-loop-cell : goal.invariant-loop-cell
invariant-loop-cell l = l.all.items ≡ l.fn.before.items ++ held_among l.table (take l.cell-index l.cells)
