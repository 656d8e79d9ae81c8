use Rattle.std.proofs.Common.{map}
use Rattle.body_builder.specs.Fragments.{tree_in}
use Rattle.graph_builder.specs.EdgePaths.{AreFirstPaths}
use Rattle.graph_builder.proofs.call_paths.all_paths.Given as goal

abbrev pub invariant-loop-body : goal.invariant-loop-body
invariant-loop-body l = AreFirstPaths (tree_in l.paths.laid.now) l.body (map (λ v. v.items) l.found.items)
