-- What the bytes of a replay are answered.
use Rattle.std.specs.Prelude.{◌≡◌, ◌⊎◌, ℕ, ◌<◌, ◌≤◌, List, [], ◌∷◌, length, codes, Some, None, Ok}
use Rattle.tm_terms.specs.declared.places.Place.{Place}
use Rattle.tm_terms.specs.declared.refusals.Refusal.{Refusal}
use Rattle.tm_terms.specs.Texts.{line_of, refusal_text}
use Rattle.tm_laid.specs.declared.scales.Scale.TheVariants as Scales
use Rattle.tm_laid.specs.Layouts.{LaidTree}
use Rattle.concrete_steps.specs.declared.worlds.Choice.{Choice}
use Rattle.source_programs.specs.program_graphs.Prepared.{Graphed, IsPrepared}
use Rattle.source_programs.specs.LaidSources.{longest_source, IsLaidSource}
use Rattle.source_programs.specs.Sources.{source_limit, IsRefused}
use Rattle.replay_lines.specs.declared.endings.Ending.{Ending}
use Rattle.replay_lines.specs.declared.endings.Ending.TheVariants.{Ran, NotAllowed, Stopped}
use Rattle.replay_lines.specs.Cuts.{source_of}
use Rattle.replay_lines.specs.Choices.{asked_of}
use Rattle.replay_lines.specs.Texts.{replay_text}
use Rattle.replay_runs.specs.Runs.{IsRun}
use Rattle.source_replays.specs.declared.replays.Outcome.{Outcome}
use Rattle.source_replays.specs.declared.replays.Outcome.TheVariants.{Clean, Found, Refused}

-- ## Bytes

-- the bytes are not too many, and their source is accepted and has this layout
pub record IsReplayable (bytes : List ℕ) (laid : LaidTree) : Type 0 where
  pub short : length bytes ≤ longest_source
  pub source : IsLaidSource (source_of bytes) laid
  pub graphed : Graphed
  pub prepared : IsPrepared Scales.Usual laid (Ok graphed)

-- why the bytes are refused: they are too many, or their source is refused
pub data IsRefusedReplay (bytes : List ℕ) : Refusal → Type 0 where
  all_too_long : longest_source < length bytes → IsRefusedReplay bytes source_limit
  source_refused : {refusal : Refusal} → length bytes ≤ longest_source → IsRefused (source_of bytes) refusal
      → IsRefusedReplay bytes refusal

-- ## Runs

-- all choices were done, and no place races, or not so
abbrev pub outcome_of : List Place → Ending → Outcome
outcome_of [] (Ran count) = Clean
outcome_of (place ∷ places) (Ran count) = Found
outcome_of places (NotAllowed choice) = Found
outcome_of places (Stopped choice class place) = Found

-- the text is that of the run that the bytes ask for
pub record Replays (bytes : List ℕ) (outcome : Outcome) (text : List ℕ) : Type 0 where
  pub laid : LaidTree
  pub replayable : IsReplayable bytes laid
  pub choices : List Choice
  pub asked : asked_of bytes ≡ Some choices
  pub places : List Place
  pub ending : Ending
  pub run : IsRun laid choices places ending
  pub comes_to : outcome ≡ outcome_of places ending
  pub is : text ≡ replay_text places ending

-- ## Answers

-- refused replay
abbrev pub no_replay_text : List ℕ
no_replay_text = line_of (codes "refused replay")

-- the text is the line of the bytes' refusal
pub record TellsRefusal (bytes text : List ℕ) : Type 0 where
  pub refusal : Refusal
  pub refused : IsRefusedReplay bytes refusal
  pub is : text ≡ refusal_text refusal

-- the source of the bytes is accepted, but they ask for no run
pub record AsksForNone (bytes text : List ℕ) : Type 0 where
  pub laid : LaidTree
  pub replayable : IsReplayable bytes laid
  pub none : asked_of bytes ≡ None
  pub is : text ≡ no_replay_text

-- what these bytes are answered, with this outcome
abbrev pub HasReplay : List ℕ → Outcome → List ℕ → Type 0
HasReplay bytes Clean text = Replays bytes Clean text
HasReplay bytes Found text = Replays bytes Found text
HasReplay bytes Refused text = TellsRefusal bytes text ⊎ AsksForNone bytes text
