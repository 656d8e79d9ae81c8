use Rattle.body_builder.specs.Fragments.{tree_in}
use Rattle.graph_builder.specs.reading.Finding.{AreFirst}
use Rattle.graph_builder.proofs.graphs.graphs.Given as goal

abbrev pub invariant-loop-body : goal.invariant-loop-body
invariant-loop-body l = AreFirst l.scale (tree_in l.paths.laid.now) l.body l.graphs.items
