use Rattle.std.proofs.Common.{take}
use Rattle.mutex_configs.specs.declared.nodes.ConfiguredNode.{ConfiguredNode as ANode}
use Rattle.mutex_configs.specs.reading.Groups.{AreGroups}
use Rattle.mutex_configs.proofs.groups.nodes_by_place.Given as goal

abbrev pub invariant-loop-number : goal.invariant-loop-number
invariant-loop-number l = AreGroups (λ (q : ANode). q.place) (take l.number l.nodes) l.places l.groups.items
