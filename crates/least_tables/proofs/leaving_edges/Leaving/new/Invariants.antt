use Rattle.least_tables.proofs.Marking.{IsBuilt}
use Rattle.least_tables.proofs.leaving_edges.Leaving.new.Given as goal

abbrev pub invariant-loop-edge : goal.invariant-loop-edge
invariant-loop-edge l = IsBuilt l.links l.nodes l.edge l.last.items l.before.items
