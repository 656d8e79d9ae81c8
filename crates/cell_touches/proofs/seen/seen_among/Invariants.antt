use Rattle.std.proofs.Common.{◌≡◌, ℕ, true}
use Rattle.tm_laid.specs.Layouts.{laid_tree}
use Rattle.cell_placings.specs.CellLists.{is_in}
use Rattle.cell_touches.specs.Touches.{Sees}
use Rattle.cell_touches.proofs.seen.seen_among.Given as goal

abbrev pub invariant-loop-cell : goal.invariant-loop-cell
invariant-loop-cell l = (x : ℕ) → is_in l.seen.items x ≡ true → Sees (laid_tree l.laid) l.body x
