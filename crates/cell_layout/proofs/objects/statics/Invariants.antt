use Rattle.std.proofs.Common.{◌≡◌, ◌++◌, drop}
use Rattle.tm_typed.specs.TypedFiles.{typed_file_tree}
use Rattle.tm_laid.specs.Objects.{static_objects}
use Rattle.cell_layout.proofs.objects.statics.Given as goal

abbrev pub invariant-loop-object : goal.invariant-loop-object
invariant-loop-object l = l.objects.items ++ static_objects (drop l.object-index (typed_file_tree l.file).statics) ≡ static_objects (typed_file_tree l.file).statics
