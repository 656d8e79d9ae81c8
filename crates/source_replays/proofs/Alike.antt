-- Each replay has one kind of answer.
use Rattle.std.proofs.Common.{◌≡◌, ℕ, ◌+◌, ◌<◌, ◌++◌, List, length, arith, ◌⊎◌, inl, inr}
use Rattle.std.proofs.lemmas.List.{length-append}
use Rattle.tm_terms.specs.declared.refusals.Refusal.{Refusal}
use Rattle.tm_laid.specs.declared.scales.Scale.TheVariants as Scales
use Rattle.tm_laid.specs.Layouts.{LaidTree}
use Rattle.source_programs.specs.LaidSources.{longest_source}
use Rattle.source_programs.proofs.low.configured_laws.OneProgram.{not_both}
use Rattle.source_programs.proofs.OneSource.{none}
use Rattle.source_replays.specs.declared.replays.Outcome.{Outcome}
use Rattle.source_replays.specs.declared.replays.Outcome.TheVariants.{Clean, Found, Refused}
use Rattle.source_replays.specs.Replays.{IsReplayable, IsRefusedReplay, all_too_long, source_refused, Replays, TellsRefusal, AsksForNone, HasReplay}
use Rattle.source_replays.specs.Laws.{LongOnesAreAlike, NoneIsBoth}

pub none_is_both : NoneIsBoth
none_is_both bytes laid _ h (all_too_long l) = absurd (let short = h.short in omega (arith, short, l))
none_is_both bytes laid r h (source_refused short q) =
    none _ Scales.Usual laid r h.source (λ s k. not_both Scales.Usual laid h.graphed s h.prepared k) q

module _ (bytes more : List ℕ) (long : longest_source < length bytes) where
  longer : longest_source < length (bytes ++ more)
  longer = let sum = length-append bytes more in omega (arith, long, sum)

  refused_alike : (r : Refusal) → IsRefusedReplay bytes r → IsRefusedReplay (bytes ++ more) r
  refused_alike _ (all_too_long l) = all_too_long longer
  refused_alike r (source_refused short q) = absurd (omega (arith, long, short))

  no_run : (laid : LaidTree) → IsReplayable bytes laid → ⊥
  no_run laid h = let short = h.short in omega (arith, long, short)

  by_kind : (text : List ℕ) → TellsRefusal bytes text ⊎ AsksForNone bytes text → TellsRefusal (bytes ++ more) text ⊎ AsksForNone (bytes ++ more) text
  by_kind text (inl t) = inl (record { refusal = t.refusal; refused = refused_alike t.refusal t.refused; is = t.is })
  by_kind text (inr n) = absurd (no_run n.laid n.replayable)

  alike : (outcome : Outcome) (text : List ℕ) → HasReplay bytes outcome text → HasReplay (bytes ++ more) outcome text
  alike Clean text h = absurd (let r : Replays bytes Clean text = h in no_run r.laid r.replayable)
  alike Found text h = absurd (let r : Replays bytes Found text = h in no_run r.laid r.replayable)
  alike Refused text h = by_kind text h

pub long_ones_are_alike : LongOnesAreAlike
long_ones_are_alike bytes more outcome text long h = alike bytes more long outcome text h
