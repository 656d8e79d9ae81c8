use Rattle.std.proofs.Common.{◌≡◌, ℕ, ◌<◌, []}
use Rattle.call_graph.specs.declared.searches.Mark.TheVariants as Marks
use Rattle.call_graph.specs.Graphs.{lists}
use Rattle.call_graph.specs.Searches.{IsSearchOf, IsAllMet}
use Rattle.call_graph.proofs.orders.callees_first.Given as goal

abbrev pub invariant-loop-f : goal.invariant-loop-f
invariant-loop-f l = IsAllMet (lists l.calls) l.search l.f
