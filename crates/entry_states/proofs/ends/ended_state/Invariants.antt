use Rattle.std.proofs.Common.{◌≡◌}
use Rattle.body_systems.specs.table_covers.Solutions.{at}
use Rattle.body_systems.specs.program_equations.Entries.{ended_below}
use Rattle.entry_states.proofs.ends.ended_state.Given as goal

abbrev pub invariant-loop-number : goal.invariant-loop-number
invariant-loop-number l = l.ended ≡ ended_below l.graph.edges.items l.nodes.keys (at l.table) l.number
