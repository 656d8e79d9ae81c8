use Rattle.std.proofs.Common.{◌≡◌, ℕ, ◌<◌, Some, map}
use Rattle.std.specs.Prelude.{slice_get}
use Rattle.tm_terms.specs.declared.tokens.Token.{Token}
use Rattle.source_marks.specs.reading.Seen.{origin_seen}
use Rattle.unit_tokens.specs.declared.fates.Fated.{Fated}
use Rattle.unit_joins.specs.Joins.{IsWritten}
use Rattle.unit_joins.proofs.checks.are_written.Given as goal

abbrev pub invariant-loop-k : goal.invariant-loop-k
invariant-loop-k l = (k : ℕ) → k < l.k → (f : Fated) (t : Token) → slice_get l.kept k ≡ Some f → slice_get l.tokens k ≡ Some t
    → IsWritten l.texts.renaming.units.now l.texts.renaming.mark.now l.texts.renaming.borders.now
    (map origin_seen l.texts.origins.now) l.texts.joined.now (map origin_seen l.texts.joined_origins.now) f t
