use Rattle.access_groups.specs.reading.Grouping.{AreGroupsOf}
use Rattle.access_groups.proofs.grouping.groups_of.Given as goal

abbrev pub invariant-loop-object : goal.invariant-loop-object
invariant-loop-object l = AreGroupsOf l.lists l.object l.groups.items
