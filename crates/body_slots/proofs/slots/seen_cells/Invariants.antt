use Rattle.std.proofs.Common.{◌≡◌, ℕ}
use Rattle.tm_laid.specs.Layouts.{laid_tree}
use Rattle.cell_placings.specs.CellLists.{is_in}
use Rattle.body_slots.specs.reading.Bodies.{is_seen_below}
use Rattle.body_slots.proofs.slots.seen_cells.Given as goal

abbrev pub invariant-loop-cell : goal.invariant-loop-cell
invariant-loop-cell l = (x : ℕ) → is_in l.seen.items x ≡ is_seen_below (laid_tree l.laid) l.task l.cell x
