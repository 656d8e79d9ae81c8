use Rattle.std.proofs.Common.{◌≡◌, drop}
use Rattle.std.specs.List.{list_all}
use Rattle.tm_laid.specs.Layouts.{laid_tree}
use Rattle.row_checks.specs.Passing.{is_stored_in}
use Rattle.row_checks.proofs.checks.are_stored_in.Given as goal

abbrev pub invariant-loop-target : goal.invariant-loop-target
invariant-loop-target l =
    list_all (is_stored_in (laid_tree l.laid) l.touched l.traces l.held) (drop l.target-index l.targets)
    ≡ list_all (is_stored_in (laid_tree l.laid) l.touched l.traces l.held) l.targets
