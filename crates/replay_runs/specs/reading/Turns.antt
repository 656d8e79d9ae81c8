-- A run so far, one choice after the other.
use Rattle.std.specs.Prelude.{◌≡◌, ◌⊎◌, ℕ, List, Contains}
use Rattle.tm_terms.specs.declared.places.Place.{Place}
use Rattle.tm_laid.specs.Layouts.{LaidTree}
use Rattle.concrete_steps.specs.declared.worlds.Choice.{Choice}
use Rattle.concrete_steps.specs.Worlds.{World, start}
use Rattle.concrete_worlds.specs.Races.{AreStrictlySorted, IsRacePlace}
use Rattle.replay_runs.specs.Runs.{RacesOnWay, ending_from}

-- the places that race in a world come to others
pub record AddsRaces (laid : LaidTree) (w : World) (places places' : List Place) : Type 0 where
  pub kept : (p : Place) → Contains places p → Contains places' p
  pub all : (p : Place) → IsRacePlace laid w p → Contains places' p
  pub only : (p : Place) → Contains places' p → Contains places p ⊎ IsRacePlace laid w p

-- the same places, sorted and each once
pub record IsSetOf (places set : List Place) : Type 0 where
  pub sorted : AreStrictlySorted set
  pub all : (p : Place) → Contains places p → Contains set p
  pub only : (p : Place) → Contains set p → Contains places p

-- The first choices were done, and led to this world, where the rest goes on. Of the places that race on the way, those
-- of the worlds before this one are found.
pub record IsSoFar (laid : LaidTree) (choices : List Choice) (places : List Place) (done : ℕ) (w : World)
    (rest : List Choice) : Type 0 where
  pub found : (p : Place) → RacesOnWay laid p (start laid) choices → Contains places p ⊎ RacesOnWay laid p w rest
  pub sure : (p : Place) → Contains places p → RacesOnWay laid p (start laid) choices
  pub onward : (p : Place) → RacesOnWay laid p w rest → RacesOnWay laid p (start laid) choices
  pub ends : ending_from laid done w rest ≡ ending_from laid 0 (start laid) choices
