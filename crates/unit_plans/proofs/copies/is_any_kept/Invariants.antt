use Rattle.std.proofs.Common.{◌≡◌, List, Option, length}
use Rattle.unit_plans.specs.Copies.{is_any_kept}
use Rattle.unit_plans.specs.declared.declarations.Local.{Local}
use Rattle.unit_plans.specs.reading.Tables.{IsTable}
use Rattle.unit_plans.proofs.copies.is_any_kept.Given as goal

abbrev pub invariant-loop-left : goal.invariant-loop-left
invariant-loop-left l = (kept : List (Option Local)) → IsTable l.table kept
    → is_any_kept kept l.sights ≡ is_any_kept kept l.left

abbrev pub decreases-loop-left : goal.decreases-loop-left
decreases-loop-left l = length l.left
