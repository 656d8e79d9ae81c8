-- The run of a program by given choices: the places at which tasks race on its way, and how it ends.
use Rattle.std.specs.Prelude.{◌≡◌, ℕ, ◌+◌, List, [], ◌∷◌, Option, Some, None, Contains}
use Rattle.tm_terms.specs.declared.places.Place.{Place}
use Rattle.tm_laid.specs.Layouts.{LaidTree}
use Rattle.concrete_steps.specs.declared.worlds.Choice.{Choice}
use Rattle.concrete_steps.specs.declared.worlds.Stepped.{Stepped}
use Rattle.concrete_steps.specs.declared.worlds.Stepped.TheVariants as Steps
use Rattle.concrete_steps.specs.Worlds.{World, start, step}
use Rattle.concrete_worlds.specs.Races.{AreStrictlySorted, IsRacePlace}
use Rattle.replay_lines.specs.declared.endings.Ending.{Ending}
use Rattle.replay_lines.specs.declared.endings.Ending.TheVariants as Ends

-- how a run ends by the choice of this number, if it does
abbrev pub ended_by : ℕ → Stepped → Option Ending
ended_by number Steps.Done = None
ended_by number Steps.NotAllowed = Some (Ends.NotAllowed number)
ended_by number (Steps.Stopped class place) = Some (Ends.Stopped number class place)

-- that ending, or else the one that comes later
abbrev pub or_later : Option Ending → Ending → Ending
or_later None later = later
or_later (Some ending) later = ending

-- How choices end that follow so many which were done.
abbrev pub ending_from : LaidTree → ℕ → World → List Choice → Ending
ending_from laid done w [] = Ends.Ran done
ending_from laid done w (c ∷ choices) =
    or_later (ended_by (done + 1) (step laid w c).answer) (ending_from laid (done + 1) (step laid w c).world choices)

-- Tasks race at this place in a world on the way: the one where the choices begin, or one to which they lead.
pub data RacesOnWay (laid : LaidTree) (p : Place) : World → List Choice → Type 0 where
  here : {w : World} {choices : List Choice} → IsRacePlace laid w p → RacesOnWay laid p w choices
  later : {w : World} {c : Choice} {choices : List Choice} → (step laid w c).answer ≡ Steps.Done
      → RacesOnWay laid p (step laid w c).world choices → RacesOnWay laid p w (c ∷ choices)

-- The run of a program by these choices, from the start: the places that race on the way, each once and sorted, and how
-- it ends.
pub record IsRun (laid : LaidTree) (choices : List Choice) (places : List Place) (ending : Ending) : Type 0 where
  pub sorted : AreStrictlySorted places
  pub all : (p : Place) → RacesOnWay laid p (start laid) choices → Contains places p
  pub only : (p : Place) → Contains places p → RacesOnWay laid p (start laid) choices
  pub ends : ending ≡ ending_from laid 0 (start laid) choices
