use Rattle.std.proofs.Common.{◌≡◌}
use Rattle.sparse_tables.specs.Trees.{climbed}
use Rattle.cell_placings.specs.OwnerTrees.{tree_of, above_in}
use Rattle.cell_placings.specs.reading.Fronts.{AreOwnedUpTo}
use Rattle.cell_placings.proofs.checks.are_fronts_owned.Given as goal

abbrev pub invariant-loop : goal.invariant-loop
invariant-loop l = record {
  climbs : l.node ≡ climbed (above_in (tree_of l.owners)) l.counter l.from;
  owned : AreOwnedUpTo (tree_of l.owners) l.from l.to l.counter;
}
