use Rattle.std.proofs.Common.{◌≡◌, drop}
use Rattle.std.specs.List.{list_all}
use Rattle.tm_laid.specs.Layouts.{laid_tree}
use Rattle.row_checks.specs.Passing.{is_left_in}
use Rattle.row_checks.proofs.handed.are_left_in.Given as goal

abbrev pub invariant-loop-other : goal.invariant-loop-other
invariant-loop-other l =
    list_all (is_left_in (laid_tree l.laid) l.set l.task l.mutex) (drop l.other-index l.entries)
    ≡ list_all (is_left_in (laid_tree l.laid) l.set l.task l.mutex) l.entries
