use Rattle.std.proofs.Common.{◌≡◌, ◌≤◌, ◌+◌, drop}
use Rattle.tm_laid.specs.Layouts.{laid_tree}
use Rattle.mutex_configs.specs.Programs.{work_from}
use Rattle.mutex_configs.proofs.programs.is_within_work.Given as goal

abbrev pub invariant-loop-body : goal.invariant-loop-body
invariant-loop-body l =
    (l.work + work_from (laid_tree l.laid) l.body (drop l.body l.configured) ≡ work_from (laid_tree l.laid) 0 l.configured)
    × (l.work ≤ l.most)
