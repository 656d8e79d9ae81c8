use Rattle.std.proofs.Common.{◌≡◌, drop}
use Rattle.std.specs.List.{list_all}
use Rattle.row_checks.specs.Passing.{is_loaded_in}
use Rattle.row_checks.proofs.checks.are_loaded_in.Given as goal

abbrev pub invariant-loop-target : goal.invariant-loop-target
invariant-loop-target l =
    list_all (is_loaded_in l.looked l.traces l.temp) (drop l.target-index l.targets)
    ≡ list_all (is_loaded_in l.looked l.traces l.temp) l.targets
