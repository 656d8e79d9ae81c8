-- Accesses that tasks are about to make, as the groups of objects with races list them.
--
-- A task that holds m is about to store to x at 3:35, and another one that holds nothing is about to load it at 4:40.
-- They race; so x has a group, and in it stand the store at 3:35 under m and the load at 4:40 under nothing, each as
-- one that races.
use Rattle.std.specs.Prelude.{◌≡◌, ℕ, ◌<◌, Bool, true, false, List, Contains, length}
use Rattle.sound_tables.specs.tm_terms.declared.places.Place.{Place}
use Rattle.sound_tables.specs.tm_laid.Layouts.{LaidTree}
use Rattle.sound_tables.specs.concrete_steps.NextAction.{next}
use Rattle.sound_tables.specs.concrete_steps.Worlds.{World, standing, answers_of, holds, next_at}
use Rattle.sound_tables.specs.concrete_steps.Occurring.{IsReached, IsAccess, IsRace}
use Rattle.sound_tables.specs.mutex_configs.Sets.{has}
use Rattle.sound_addresses.specs.sound_runs.Sources.{sets_after}
use Rattle.access_groups.specs.declared.object_access.ObjectAccess.{ObjectAccess}
use Rattle.access_groups.specs.declared.object_access.AccessGroup.{AccessGroup}
use Rattle.sound_core.specs.Places.{MayAct}

module _ (laid : LaidTree) (w : World) where
  -- the set has exactly the mutexes that the task holds
  abbrev pub HoldsExactly : ℕ → ℕ → Type 0
  HoldsExactly task held = (m : ℕ) → m < 16 → has held m ≡ holds m (standing w task)

  -- the task has found each mutex of the set free, and has not waited since
  abbrev pub HasFoundFree : ℕ → ℕ → Type 0
  HasFoundFree task free = (m : ℕ) → has free m ≡ true
      → (let s = sets_after (next laid task) (answers_of w task) in has s.found m ≡ true)

  -- it is the access that the task is about to make
  pub record IsNextAccess (i : ℕ) (stores : Bool) (at : Place) (e : ObjectAccess) : Type 0 where
    pub task : e.task ≡ i
    pub kind : e.stores ≡ stores
    pub place : e.place ≡ at
    pub holds : HoldsExactly i e.held
    pub free : HasFoundFree i e.free

  -- it stands in a group of the object
  pub record IsGrouped (groups : List AccessGroup) (object task : ℕ) (stores : Bool) (place : Place) : Type 0 where
    pub group : AccessGroup
    pub has_group : Contains groups group
    pub of : group.object ≡ object
    pub access : ObjectAccess
    pub has_access : Contains group.accesses.items access
    pub next : IsNextAccess task stores place access

  -- one of the groups is that of the object
  pub record HasGroup (groups : List AccessGroup) (object : ℕ) : Type 0 where
    pub group : AccessGroup
    pub has_group : Contains groups group
    pub of : group.object ≡ object

  -- each access that the task is about to make to an object with a group stands in it
  abbrev pub AreGrouped : List AccessGroup → ℕ → Type 0
  AreGrouped groups task = (object offset : ℕ) (stores : Bool) (place : Place)
      → IsAccess object offset (next_at laid w task) stores place → HasGroup groups object
      → IsGrouped groups object task stores place

  -- both accesses of a race stand in a group of its object, as accesses that race
  pub record IsGroupedRace (groups : List AccessGroup) (i j : ℕ) (place : Place) (r : IsRace laid w i j place) : Type 0 where
    pub one : IsGrouped groups r.object i r.stores place
    pub one_races : (let e = one.access in e.racing ≡ true)
    pub other : IsGrouped groups r.object j r.other_stores r.other_place
    pub other_races : (let e = other.access in e.racing ≡ true)

-- In each world that a run reaches and that has not stopped, each access that a task is about to make to an object with
-- a group stands in that group; and where two of them race, their object has one, and both stand in it as such.
pub record ListsAccesses (laid : LaidTree) (groups : List AccessGroup) : Type 0 where
  pub accesses : (w : World) → IsReached laid w → (task : ℕ) → task < length laid.file.tasks → MayAct laid w task
      → AreGrouped laid w groups task
  pub races : (w : World) → IsReached laid w → (i j : ℕ) → MayAct laid w i → (place : Place)
      (r : IsRace laid w i j place) → IsGroupedRace laid w groups i j place r
