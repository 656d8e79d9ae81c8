use Rattle.std.proofs.Common.{drop}
use Rattle.tm_typed.specs.TypedStatements.{as_typed_cases}
use Rattle.path_origins.specs.reading.Leaving.{labels_noted}
use Rattle.path_origins.proofs.Leaving.{IsYet}
use Rattle.path_origins.proofs.statements.note_labels.Given as goal

-- the labels that are left, behind those that are noted
abbrev pub invariant-loop-part : goal.invariant-loop-part
invariant-loop-part l =
    IsYet l.initial.to l.to (labels_noted (as_typed_cases (drop l.part-index l.parts)))
    (labels_noted (as_typed_cases l.parts))
