use Rattle.std.proofs.Common.{◌≡◌, ◌+◌, ◌≤◌, min, drop}
use Rattle.tm_typed.specs.TypedFiles.{typed_file_tree}
use Rattle.cell_layout.specs.reading.Counts.{beyond_number, of_locals}
use Rattle.cell_layout.proofs.counts.count_locals.Given as goal

abbrev pub invariant-loop-local : goal.invariant-loop-local
invariant-loop-local l =
    (l.sum ≤ beyond_number l.limit) × (min (beyond_number l.limit) (l.sum + of_locals (typed_file_tree l.file) l.limit (drop l.local-index l.locals))
    ≡ min (beyond_number l.limit) (of_locals (typed_file_tree l.file) l.limit l.locals))
