use Rattle.std.proofs.Common.{All, take}
use Rattle.engine_tests.specs.Checks.{IsEdge}
use Rattle.engine_tests.proofs.made_graphs.are_edges.Given as goal

abbrev pub invariant-loop-edge : goal.invariant-loop-edge
invariant-loop-edge l = All (IsEdge l.nodes) (take l.edge-index l.edges)
