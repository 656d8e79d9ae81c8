-- Graphs whose copies are settled: what a temporary holds when it is first copied, no later edge gives it anew.
use Rattle.std.specs.Prelude.{◌≡◌, ℕ, List, [], ◌∷◌, Some}
use Rattle.flow_graph.specs.declared.operations.Operation.{Operation}
use Rattle.flow_graph.specs.declared.operations.Operation.TheVariants as Op
use Rattle.flow_graph.specs.Operations.{given}
use Rattle.flow_graph.specs.Graphs.{Edges}

-- no edge gives the temporary
abbrev pub NeverGives : Edges → ℕ → Type 0
NeverGives [] temp = Unit {0}
NeverGives (e ∷ graph) temp = (given e.op ≡ Some temp → ⊥) × NeverGives graph temp

-- if the operation is a copy, no edge gives what it copies
abbrev pub IsSettled : Operation → Edges → Type 0
IsSettled (Op.Copy to from) graph = NeverGives graph from
IsSettled operation graph = Unit {0}

-- in the order of the edges: from an edge on that copies a temporary, no edge gives this temporary
abbrev pub AreSettled : Edges → Type 0
AreSettled [] = Unit {0}
AreSettled (e ∷ graph) = IsSettled e.op (e ∷ graph) × AreSettled graph
