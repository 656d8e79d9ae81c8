use Rattle.std.proofs.Common.{◌≡◌, ℕ}
use Rattle.call_graph.specs.Graphs.{lists}
use Rattle.call_graph.specs.Searches.{IsSearchOf, KeepsMet, work_of}
use Rattle.call_graph.proofs.searches.search_on.Given as goal

abbrev pub invariant-loop-f : goal.invariant-loop-f
invariant-loop-f l = IsSearchOf (lists l.calls) l.search l.search.path.items × KeepsMet l.initial.search.marks.items l.search.marks.items

abbrev pub decreases-loop-f : goal.decreases-loop-f
decreases-loop-f l = work_of (lists l.calls) l.search
