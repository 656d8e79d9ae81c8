use Rattle.std.proofs.Common.{◌≡◌, ◌++◌, reverse}
use Rattle.body_builder.specs.Fragments.{tree_in, edges_of}
use Rattle.graph_builder.proofs.paths.Paths.expand.Given as goal

-- the edges that are there, and those for which the items stand that wait
abbrev pub invariant-loop : goal.invariant-loop
invariant-loop l =
    l.edges.items ++ edges_of (tree_in l.self.laid.now) (reverse l.waiting.items)
    ≡ edges_of (tree_in l.self.laid.now) l.fn.items.items
