use Rattle.std.proofs.Common.{◌≡◌}
use Rattle.tm_laid.specs.Layouts.{laid_tree}
use Rattle.concrete_worlds.specs.reading.Clearing.{cleared_cells}
use Rattle.concrete_worlds.proofs.clearing.clear_cells.Given as goal

abbrev pub invariant-loop-offset : goal.invariant-loop-offset
invariant-loop-offset l = l.contents.items ≡ cleared_cells (laid_tree l.laid) l.first l.offset l.initial.contents.items
