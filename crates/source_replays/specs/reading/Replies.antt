-- What goes with the text of a run, and with the line of a refusal.
use Rattle.std.specs.Prelude.{◌≡◌, ℕ, List}
use Rattle.tm_terms.specs.declared.places.Place.{Place}
use Rattle.tm_terms.specs.declared.refusals.Refusal.{Refusal}
use Rattle.tm_terms.specs.Texts.{refusal_text}
use Rattle.replay_lines.specs.declared.endings.Ending.{Ending}
use Rattle.replay_lines.specs.Texts.{replay_text}
use Rattle.source_replays.specs.declared.replays.Outcome.{Outcome}
use Rattle.source_replays.specs.declared.replays.Outcome.TheVariants.{Refused}
use Rattle.source_replays.specs.Replays.{outcome_of}

abbrev pub TellsRun : List Place → Ending → Outcome → List ℕ → Type 0
TellsRun places ending outcome text = (outcome ≡ outcome_of places ending) × (text ≡ replay_text places ending)

abbrev pub IsRefusalLine : Refusal → Outcome → List ℕ → Type 0
IsRefusalLine refusal outcome text = (outcome ≡ Refused) × (text ≡ refusal_text refusal)
