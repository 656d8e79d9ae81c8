use Rattle.body_builder.specs.lowering.Built.{skips}
use Rattle.body_builder.specs.Fragments.{tree_in, so_far}
use Rattle.statement_builder.specs.reading.Meeting.{with_edges}
use Rattle.statement_builder.proofs.Skips.{HasSkips}
use Rattle.statement_builder.proofs.meeting.build_skips.Given as goal

-- the edges that are left, behind those that are placed
abbrev pub invariant-loop-node : goal.invariant-loop-node
invariant-loop-node l =
    HasSkips l.from l.node-index l.target (so_far (tree_in l.here.laid.now) l.to)
    (with_edges (skips l.from l.target) (so_far (tree_in l.here.laid.now) l.initial.to))
