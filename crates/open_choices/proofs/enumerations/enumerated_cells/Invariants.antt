use Rattle.std.proofs.Common.{◌≡◌, ℕ, ◌<◌, length, get_or, false}
use Rattle.tm_laid.specs.Layouts.{laid_tree}
use Rattle.part_extents.specs.Parts.{is_of_enumeration, inside_of}
use Rattle.open_choices.proofs.enumerations.enumerated_cells.Given as goal

abbrev pub invariant-loop-cell : goal.invariant-loop-cell
invariant-loop-cell l = record {
  count : length l.cells.items ≡ l.cell-index;
  each : (k : ℕ) → k < l.cell-index
      → get_or l.cells.items k false ≡ is_of_enumeration (laid_tree l.laid) (inside_of (laid_tree l.laid) k);
}
