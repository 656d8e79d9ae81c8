use Rattle.std.proofs.Common.{take}
use Rattle.entry_states.specs.reading.Leaving.{AreLeft}
use Rattle.entry_states.proofs.ends.left_places.Given as goal

abbrev pub invariant-loop-edge : goal.invariant-loop-edge
invariant-loop-edge l = AreLeft (take l.edge-index l.graph.edges.items) l.graph.nodes l.left.items
