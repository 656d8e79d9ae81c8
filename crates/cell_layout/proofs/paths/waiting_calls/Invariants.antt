use Rattle.std.proofs.Common.{◌≡◌, ◌++◌, drop}
use Rattle.tm_typed.specs.CallGraph.{calls_in}
use Rattle.tm_typed.specs.TypedFiles.{typed_file_tree}
use Rattle.cell_layout.specs.reading.Waits.{calls_waiting}
use Rattle.cell_layout.proofs.paths.waiting_calls.Given as goal

abbrev pub invariant-loop-callee : goal.invariant-loop-callee
invariant-loop-callee l =
    let calls = calls_in (typed_file_tree l.file).calls l.function in
    (l.site ≡ l.callee-index) × (l.waiting.items ++ calls_waiting l.body l.path l.site (drop l.callee-index calls) ≡ calls_waiting l.body l.path 0 calls)
