use Rattle.std.proofs.Common.{◌≡◌, ◌++◌, drop}
use Rattle.concrete_worlds.specs.reading.Clearing.{cleared_contents}
use Rattle.concrete_worlds.proofs.starts.push_cleared.Given as goal

abbrev pub invariant-loop-cell : goal.invariant-loop-cell
invariant-loop-cell l = l.contents.items ++ cleared_contents (drop l.cell-index l.cells) ≡ l.initial.contents.items ++ cleared_contents l.cells
