-- The races of a world.
use Rattle.std.specs.Prelude.{◌≡◌, ◌⊎◌, ◌<◌, ℕ, true, false, List, [], ◌∷◌, Contains}
use Rattle.tm_terms.specs.declared.places.Place.{Place}
use Rattle.tm_laid.specs.Layouts.{LaidTree}
use Rattle.concrete_steps.specs.Worlds.{World, tasks_may_run}
use Rattle.concrete_steps.specs.Occurring.{IsRace}

-- no error has stopped the run, there is no initial section or it is done, and two tasks race at this place
pub record IsRacePlace (laid : LaidTree) (w : World) (p : Place) : Type 0 where
  pub runs : w.stopped ≡ false
  pub begun : tasks_may_run laid w ≡ true
  pub one : ℕ
  pub other : ℕ
  pub races : IsRace laid w one other p

-- by line, then by column
abbrev pub PlaceBefore : Place → Place → Type 0
PlaceBefore p q = (p.line < q.line) ⊎ ((p.line ≡ q.line) × (p.col < q.col))

-- each place comes before the next one: sorted, without repeats
abbrev pub AreStrictlySorted : List Place → Type 0
AreStrictlySorted [] = Unit {0}
AreStrictlySorted (p ∷ []) = Unit {0}
AreStrictlySorted (p ∷ q ∷ places) = PlaceBefore p q × AreStrictlySorted (q ∷ places)

-- these are the places at which tasks race
pub record AreRaces (laid : LaidTree) (w : World) (places : List Place) : Type 0 where
  pub sorted : AreStrictlySorted places
  pub all : (p : Place) → IsRacePlace laid w p → Contains places p
  pub only : (p : Place) → Contains places p → IsRacePlace laid w p
