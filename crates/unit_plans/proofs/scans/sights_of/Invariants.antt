use Rattle.std.proofs.Common.{◌≡◌, length, map}
use Rattle.unit_plans.specs.Sights.{behind_all, start, typedef_of}
use Rattle.unit_plans.specs.reading.Scans.{stand_of}
use Rattle.unit_plans.specs.reading.Tables.{IsTable}
use Rattle.unit_plans.proofs.scans.sights_of.Given as goal

-- the tokens that are left give behind those before them what all give
abbrev pub invariant-loop-left : goal.invariant-loop-left
invariant-loop-left l = record {
  seen : behind_all l.borders start l.tokens ≡ behind_all l.borders (stand_of l.scan) l.left;
  types : IsTable l.scan.types (map typedef_of l.scan.sights.items);
}

abbrev pub decreases-loop-left : goal.decreases-loop-left
decreases-loop-left l = length l.left
