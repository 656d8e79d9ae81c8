use Rattle.std.proofs.Common.{◌≡◌, ◌+◌, ◌≤◌, min, drop}
use Rattle.tm_typed.specs.TypedFiles.{typed_file_tree}
use Rattle.cell_layout.specs.reading.Counts.{beyond_number, of_statics, sum_of, total_in}
use Rattle.cell_layout.proofs.counts.count_all.Given as goal

abbrev pub invariant-loop-body : goal.invariant-loop-body
invariant-loop-body l =
    let file = typed_file_tree l.file in
    (l.sum ≤ beyond_number l.limit)
    × (min (beyond_number l.limit) (l.sum + sum_of (total_in l.totals) (drop l.body-index l.bodies))
    ≡ min (beyond_number l.limit) (of_statics file l.limit file.statics + sum_of (total_in l.totals) l.bodies))
