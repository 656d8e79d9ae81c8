use Rattle.body_builder.specs.Fragments.{tree_in, AreSizes}
use Rattle.graph_builder.proofs.sizes.unknown.Given as goal

abbrev pub invariant-loop : goal.invariant-loop
invariant-loop l = AreSizes (tree_in l.laid) l.sizes.items
