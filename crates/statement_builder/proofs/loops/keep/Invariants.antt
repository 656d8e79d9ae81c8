use Rattle.std.proofs.Common.{◌≡◌, ◌++◌, map, drop}
use Rattle.body_builder.specs.lowering.Built.{still_by}
use Rattle.statement_builder.specs.Waiting.{waiting}
use Rattle.statement_builder.specs.reading.Statements.{stays}
use Rattle.statement_builder.proofs.loops.keep.Given as goal

abbrev pub invariant-loop-one : goal.invariant-loop-one
invariant-loop-one l =
    map waiting l.outside.items ++ still_by (stays l.in_loop) (map waiting (drop l.one-index l.pending))
    ≡ map waiting l.initial.outside.items ++ still_by (stays l.in_loop) (map waiting l.pending)
