use Rattle.std.proofs.Common.{ℕ, take}
use Rattle.std.specs.Prelude.{All}
use Rattle.tm_typed.specs.CallGraph.{Reaches, calls_in}
use Rattle.call_graph.specs.Graphs.{lists}
use Rattle.call_graph.proofs.orders.first_recursive.Given as goal

abbrev pub invariant-loop-f : goal.invariant-loop-f
invariant-loop-f l = All (λ f. Reaches (calls_in (lists l.calls)) f f → ⊥) (take l.f-index l.functions)
