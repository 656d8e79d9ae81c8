use Rattle.std.proofs.Common.{◌≡◌, ◌++◌, drop, map}
use Rattle.tm_typed.specs.TypedFiles.{typed_static_tree}
use Rattle.text_choices.specs.reading.Named.{named_static}
use Rattle.text_choices.proofs.static_names.static_names.Given as goal

abbrev pub invariant-loop-one : goal.invariant-loop-one
invariant-loop-one l =
    l.names ++ map named_static (map typed_static_tree (drop l.one-index l.statics)) ≡ map named_static (map typed_static_tree l.statics)
