use Rattle.std.proofs.Common.{◌≡◌}
use Rattle.post_recheck.specs.reading.Joins.{joined_by, AreCoveredBelow}
use Rattle.post_recheck.proofs.answers.answered.Given as goal

abbrev pub invariant-loop-body : goal.invariant-loop-body
invariant-loop-body l = AreCoveredBelow l.checks l.body × (l.added ≡ joined_by l.checks l.body)
