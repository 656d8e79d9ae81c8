use Rattle.std.proofs.Common.{◌≡◌, ◌+◌, ◌≤◌, min, drop}
use Rattle.tm_typed.specs.CallGraph.{calls_in}
use Rattle.tm_typed.specs.TypedFiles.{typed_file_tree}
use Rattle.cell_layout.specs.reading.Counts.{beyond_number, own_by, sum_of, total_in}
use Rattle.cell_layout.proofs.counts.sum_over.Given as goal

abbrev pub invariant-loop-callee : goal.invariant-loop-callee
invariant-loop-callee l =
    let calls = calls_in (typed_file_tree l.file).calls l.function in
    (l.sum ≤ beyond_number l.limit)
    × (min (beyond_number l.limit) (l.sum + sum_of (total_in l.totals) (drop l.callee-index calls))
    ≡ min (beyond_number l.limit) (own_by (typed_file_tree l.file) l.limit l.function + sum_of (total_in l.totals) calls))
