use Rattle.std.proofs.Common.{◌≡◌, drop}
use Rattle.tm_typed.specs.TypedStatements.{as_typed_cases}
use Rattle.path_origins.specs.reading.Leaving.{is_default_among}
use Rattle.path_origins.proofs.statements.has_default.Given as goal

-- no part so far is a default
abbrev pub invariant-loop-part : goal.invariant-loop-part
invariant-loop-part l =
    is_default_among (as_typed_cases (drop l.part-index l.parts)) ≡ is_default_among (as_typed_cases l.parts)
