use Rattle.std.proofs.Common.{◌≡◌, ◌++◌, drop}
use Rattle.tm_typed.specs.TypedFiles.{typed_file_tree}
use Rattle.tm_laid.specs.Objects.{static_numbers}
use Rattle.cell_layout.proofs.objects.numbers_of_statics.Given as goal

abbrev pub invariant-loop-object : goal.invariant-loop-object
invariant-loop-object l =
    l.numbers.items ++ static_numbers l.number (drop l.object-index (typed_file_tree l.file).statics) ≡ static_numbers 0 (typed_file_tree l.file).statics
