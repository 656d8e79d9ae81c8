use Rattle.std.proofs.Common.{◌≡◌, ◌++◌, drop}
use Rattle.tm_laid.specs.Layouts.{laid_tree}
use Rattle.edge_actions.proofs.LeadingCells.{found_all}
use Rattle.edge_actions.proofs.targets.targets_at.Given as goal

abbrev pub invariant-loop-object : goal.invariant-loop-object
invariant-loop-object l =
    l.targets.items ++ found_all (laid_tree l.laid) l.scalar l.task l.pointers (drop l.object-index l.object-items)
    ≡ found_all (laid_tree l.laid) l.scalar l.task l.pointers l.object-items
