use Rattle.body_builder.specs.Fragments.{tree_in, AreSizes}
use Rattle.graph_builder.proofs.sizes.path_sizes.Given as goal

abbrev pub invariant-loop-path : goal.invariant-loop-path
invariant-loop-path l = AreSizes (tree_in l.laid) l.sizes.items
