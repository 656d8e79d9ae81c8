-- Which errors occur: in some run that the scheduler allows, up to its first error.
use Rattle.std.specs.Prelude.{◌≡◌, ◌≢◌, ◌⊎◌, ◌<◌, ℕ, Bool, true, false, IsTrue, length}
use Rattle.tm_cint.specs.declared.Class.{Class}
use Rattle.tm_cint.specs.declared.Class.TheVariants as Classes
use Rattle.tm_terms.specs.declared.places.Place.{Place}
use Rattle.concrete_values.specs.tm_laid.Layouts.{LaidTree}
use Rattle.concrete_values.specs.declared.actions.Next.{Next}
use Rattle.concrete_values.specs.declared.actions.Next.TheVariants as Acts
use Rattle.concrete_steps.specs.declared.worlds.Choice.{Choice}
use Rattle.concrete_steps.specs.declared.worlds.Stepped.TheVariants as Steps
use Rattle.concrete_steps.specs.Worlds.{World, start, step, next_at, tasks_may_run}

-- the worlds to which choices lead, each of them allowed, before an error
pub data IsReached (laid : LaidTree) : World → Type 0 where
  at_start : IsReached laid (start laid)
  by_step : {w : World} → IsReached laid w → (c : Choice) → (step laid w c).answer ≡ Steps.Done
      → IsReached laid (step laid w c).world

-- a step stops with an error of this class at this place
pub record IsStopped (laid : LaidTree) (class : Class) (p : Place) : Type 0 where
  pub world : World
  pub reached : IsReached laid world
  pub choice : Choice
  pub stops : (step laid world choice).answer ≡ Steps.Stopped class p

-- the action is an access to the cell at this offset of the object, a store or not, at this place
pub data IsAccess (o k : ℕ) : Next → Bool → Place → Type 0 where
  a_load_there : {scalar : _} {volatile : Bool} {p : Place} → IsAccess o k (Acts.Load o k scalar volatile p) false p
  a_store_there : {scalar : _} {x : _} {p : Place} → IsAccess o k (Acts.Store o k scalar x p) true p

-- the next actions of two tasks access one cell, and one of them is a store; a task that waits counts too
pub record IsRace (laid : LaidTree) (w : World) (i j : ℕ) (p : Place) : Type 0 where
  pub tasks : (i < length laid.file.tasks) × (j < length laid.file.tasks) × (i ≢ j)
  pub object : ℕ
  pub offset : ℕ
  pub stores : Bool
  pub other_stores : Bool
  pub other_place : Place
  pub access : IsAccess object offset (next_at laid w i) stores p
  pub other : IsAccess object offset (next_at laid w j) other_stores other_place
  pub store : IsTrue stores ⊎ IsTrue other_stores

-- two tasks race in a world that is reached, after the initial section
pub record IsRaced (laid : LaidTree) (p : Place) : Type 0 where
  pub world : World
  pub reached : IsReached laid world
  pub begun : IsTrue (tasks_may_run laid world)
  pub one : ℕ
  pub other : ℕ
  pub races : IsRace laid world one other p

-- An error of this class occurs at this place.
abbrev pub Occurs : LaidTree → Class → Place → Type 0
Occurs laid class p = IsStopped laid class p ⊎ ((class ≡ Classes.Race) × IsRaced laid p)
