use Rattle.std.proofs.Common.{◌≡◌, drop}
use Rattle.tm_typed.specs.TypedStatements.{as_typed_cases}
use Rattle.statement_builder.specs.reading.Statements.{has_default}
use Rattle.statement_builder.proofs.selections.has_default.Given as goal

abbrev pub invariant-loop-part : goal.invariant-loop-part
invariant-loop-part l =
    has_default (as_typed_cases (drop l.part-index l.cases)) ≡ has_default (as_typed_cases l.cases)
