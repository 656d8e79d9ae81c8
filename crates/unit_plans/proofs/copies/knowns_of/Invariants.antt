use Rattle.std.proofs.Common.{◌≡◌, [], length}
use Rattle.unit_plans.specs.Copies.{copies_behind, no_copies}
use Rattle.unit_plans.specs.reading.Founds.{copies_of}
use Rattle.unit_plans.specs.reading.Tables.{IsTable}
use Rattle.unit_plans.proofs.copies.knowns_of.Given as goal

-- the tokens that are left give behind those before them what all give
abbrev pub invariant-loop-left : goal.invariant-loop-left
invariant-loop-left l = record {
  same : copies_behind l.sights no_copies [] l.sights ≡ copies_behind l.sights (copies_of l.found) l.own.items l.left;
  table : IsTable l.found.table l.found.kept.items;
}

abbrev pub decreases-loop-left : goal.decreases-loop-left
decreases-loop-left l = length l.left
