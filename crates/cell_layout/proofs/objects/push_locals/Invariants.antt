use Rattle.std.proofs.Common.{◌≡◌, ◌++◌, drop}
use Rattle.tm_typed.specs.TypedFiles.{typed_file_tree}
use Rattle.tm_laid.specs.Paths.{locals_of}
use Rattle.tm_laid.specs.Objects.{local_objects}
use Rattle.cell_layout.proofs.objects.push_locals.Given as goal

abbrev pub invariant-loop-local : goal.invariant-loop-local
invariant-loop-local l =
    let locals = locals_of (typed_file_tree l.file) l.function in
    l.objects.items ++ local_objects l.path (drop l.local-index locals) ≡ l.initial.objects.items ++ local_objects l.path locals
