use Rattle.std.proofs.Common.{◌≡◌, length}
use Rattle.body_systems.specs.Systems.{body_of}
use Rattle.body_slots.specs.reading.Bodies.{AreRoundedBelow}
use Rattle.body_slots.proofs.slots.rounded_sets.Given as goal

abbrev pub invariant-loop-node : goal.invariant-loop-node
invariant-loop-node l = (length l.sets.items ≡ l.node) × AreRoundedBelow (body_of l.body) l.node l.sets.items
