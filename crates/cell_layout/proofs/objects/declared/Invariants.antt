use Rattle.std.proofs.Common.{◌≡◌, ◌++◌, drop}
use Rattle.tm_typed.specs.TypedFiles.{typed_file_tree}
use Rattle.tm_laid.specs.Objects.{path_objects}
use Rattle.tm_laid.specs.Layouts.{declared_objects}
use Rattle.cell_layout.proofs.objects.declared.Given as goal

abbrev pub invariant-loop-path : goal.invariant-loop-path
invariant-loop-path l =
    (l.number ≡ l.path-index)
    × (l.objects.items ++ path_objects (typed_file_tree l.file) l.number (drop l.path-index l.paths) ≡ declared_objects (typed_file_tree l.file) l.paths)
