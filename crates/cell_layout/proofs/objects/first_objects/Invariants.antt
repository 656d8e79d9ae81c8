use Rattle.std.proofs.Common.{◌≡◌, ◌++◌, drop}
use Rattle.tm_typed.specs.TypedFiles.{typed_file_tree}
use Rattle.tm_laid.specs.Paths.{first_objects_of}
use Rattle.cell_layout.proofs.objects.first_objects.Given as goal

abbrev pub invariant-loop-path : goal.invariant-loop-path
invariant-loop-path l =
    l.firsts.items ++ first_objects_of (typed_file_tree l.file) l.object (drop l.path-index l.paths) ≡ first_objects_of (typed_file_tree l.file) l.statics l.paths
