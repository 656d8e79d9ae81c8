use Rattle.std.proofs.Common.{◌≡◌, ◌+◌, length, reverse}
use Rattle.body_builder.specs.Fragments.{tree_in, edges_of}
use Rattle.graph_builder.proofs.paths.Paths.along.Given as goal

-- a path for each edge that is there, and the edges for which the items stand that wait
abbrev pub invariant-loop : goal.invariant-loop
invariant-loop l =
    length l.along.items + length (edges_of (tree_in l.self.laid.now) (reverse l.waiting.items))
    ≡ length (edges_of (tree_in l.self.laid.now) l.fn.items.items)
