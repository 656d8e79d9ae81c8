use Rattle.std.proofs.Common.{◌≡◌, length}
use Rattle.engine_tests.proofs.layouts.static_cells.Given as goal

abbrev pub invariant-loop-offset : goal.invariant-loop-offset
invariant-loop-offset l = length l.cells.items ≡ l.offset
