-- Marks after one more edge.
use Rattle.std.proofs.Common.{◌≡◌, refl, Bool, List, [], ◌∷◌, ◌++◌}
use Rattle.flow_graph.specs.declared.graphs.Edge.{Edge}
use Rattle.flow_graph.specs.Graphs.{Edges}
use Rattle.temporary_types.specs.PointerMarks.{marked, marked_by}

pub marked_more : (marks : List Bool) (graph : Edges) (e : Edge) → marked_by marks (graph ++ e ∷ [])
    ≡ marked (marked_by marks graph) e.op
marked_more marks [] e = refl
marked_more marks (x ∷ graph) e = marked_more (marked marks x.op) graph e
