use Rattle.std.proofs.Common.{◌≡◌, drop}
use Rattle.tm_typed.specs.TypedStatements.{as_typed_cases}
use Rattle.task_interpreter.specs.reading.Lists.{case_rest, default_rest}
use Rattle.task_interpreter.proofs.labels.start.Given as goal

abbrev pub invariant-loop-index : goal.invariant-loop-index
invariant-loop-index l =
    case_rest l.value (as_typed_cases (drop l.index l.parts)) (default_rest (as_typed_cases l.parts))
    ≡ case_rest l.value (as_typed_cases l.parts) (default_rest (as_typed_cases l.parts))
