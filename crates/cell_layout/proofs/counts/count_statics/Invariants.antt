use Rattle.std.proofs.Common.{◌≡◌, ◌+◌, ◌≤◌, min, drop}
use Rattle.tm_typed.specs.TypedFiles.{typed_file_tree}
use Rattle.cell_layout.specs.reading.Counts.{beyond_number, of_statics}
use Rattle.cell_layout.proofs.counts.count_statics.Given as goal

abbrev pub invariant-loop-object : goal.invariant-loop-object
invariant-loop-object l =
    let file = typed_file_tree l.file in
    (l.sum ≤ beyond_number l.limit)
    × (min (beyond_number l.limit) (l.sum + of_statics file l.limit (drop l.object-index file.statics)) ≡ min (beyond_number l.limit) (of_statics file l.limit file.statics))
