use Rattle.std.proofs.Common.{◌≡◌, length}
use Rattle.unit_plans.specs.Copies.{added}
use Rattle.unit_plans.specs.reading.Founds.{copies_of}
use Rattle.unit_plans.specs.reading.Tables.{IsTable}
use Rattle.unit_plans.proofs.copies.add.Given as goal

abbrev pub invariant-loop-left : goal.invariant-loop-left
invariant-loop-left l = record {
  same : added (copies_of l.initial.found) l.own l.others ≡ added (copies_of l.found) l.left l.right;
  table : IsTable l.found.table l.found.kept.items;
}

abbrev pub decreases-loop-left : goal.decreases-loop-left
decreases-loop-left l = length l.left
