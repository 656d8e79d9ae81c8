-- The accesses of objects that have races, as the tables of a program tell.
--
-- In
--     __mutex m;int x;
--     __task(1) void a(void){__lock(m);x=1;__unlock(m);}
--     __task(2) void b(void){__lock(m);x=2;__unlock(m);x=3;}
-- the stores at 2:35 and 3:51 race, and no others. So x has a group, of three accesses: the store of a under m, which
-- races; the store of b under m at 3:35, which does not; and the store of b under nothing at 3:51, which does.
use Rattle.std.specs.Prelude.{◌≡◌, ◌↔◌, ℕ, ◌<◌, true, List, map, Contains, Some}
use Rattle.tm_terms.specs.declared.places.Place.{Place}
use Rattle.tm_laid.specs.Layouts.{abstract_at}
use Rattle.mutex_configs.specs.Sets.{has}
use Rattle.program_reports.specs.post_recheck.transfer_rows.StateForms.{State}
use Rattle.program_reports.specs.post_recheck.table_covers.Solutions.{NodeTable}
use Rattle.program_reports.specs.post_recheck.program_equations.Programs.{ProgramBodies}
use Rattle.program_reports.specs.Reports.{place_of, IsWriting, operation_in, left_in, IsAccess, AreRacing}
use Rattle.access_groups.specs.declared.object_access.ObjectAccess.{ObjectAccess}
use Rattle.access_groups.specs.declared.object_access.AccessGroup.{AccessGroup}
use Rattle.access_races.specs.Rising.{AreRising}
use Rattle.access_groups.specs.Order.{sort_key, IsBefore}

module _ (p : ProgramBodies) where
  -- the object of an abstract cell
  abbrev pub object_in : ℕ → ℕ
  object_in cell = (let a = abstract_at p.laid cell in a.object)

  module _ (tables : ℕ → NodeTable State) (object : ℕ) where
    -- ## Accesses

    -- A copy of an edge of the task reaches a cell of the object. It stands at the place, is of the kind, and leaves a
    -- node at which exactly these mutexes are held.
    pub record IsAccessAt (e : ObjectAccess) (copy cell : ℕ) : Type 0 where
      pub access : IsAccess p tables e.task copy cell
      pub of : object_in cell ≡ object
      pub placed : place_of (operation_in p e.task copy) ≡ Some e.place
      pub kind : (e.stores ≡ true) ↔ IsWriting (operation_in p e.task copy)
      pub holds : (let q = left_in p e.task copy in q.held ≡ e.held)

    -- some copy does
    pub record IsAccessed (e : ObjectAccess) : Type 0 where
      pub copy : ℕ
      pub cell : ℕ
      pub at : IsAccessAt e copy cell

    -- one that does races with another on a cell of the object
    pub record IsRacingThere (e : ObjectAccess) : Type 0 where
      pub copy : ℕ
      pub other_task : ℕ
      pub other_copy : ℕ
      pub races : AreRacing p tables e.task copy other_task other_copy
      pub at : IsAccessAt e copy races.cell

    -- a mutex was found free at the node of each one that does
    abbrev pub IsFoundFree : ObjectAccess → ℕ → Type 0
    IsFoundFree e m = (copy cell : ℕ) → IsAccessAt e copy cell
        → (let q = left_in p e.task copy in has q.found m ≡ true)

    -- There is such an access; these are the mutexes that were found free, and it tells whether one races.
    pub record IsObjectAccess (e : ObjectAccess) : Type 0 where
      pub accessed : IsAccessed e
      pub free : (m : ℕ) → (has e.free m ≡ true) ↔ IsFoundFree e m
      pub racing : (e.racing ≡ true) ↔ IsRacingThere e

    -- each access of the object, once and in order
    pub record AreObjectAccesses (accesses : List ObjectAccess) : Type 0 where
      pub rising : AreRising IsBefore accesses
      pub each : (e : ObjectAccess) → Contains accesses e → IsObjectAccess e
      pub all : (e : ObjectAccess) → IsAccessed e
          → (f : ObjectAccess) × Contains accesses f × (sort_key f ≡ sort_key e)

    -- ## Objects

    -- two accesses race on a cell of the object
    pub record HasRace : Type 0 where
      pub task : ℕ
      pub copy : ℕ
      pub other_task : ℕ
      pub other_copy : ℕ
      pub races : AreRacing p tables task copy other_task other_copy
      pub of : object_in races.cell ≡ object

  -- ## Groups

  -- exactly the objects with races, by rising numbers, each with its accesses
  pub record AreGroups (tables : ℕ → NodeTable State) (groups : List AccessGroup) : Type 0 where
    pub rising : AreRising (λ (g h : AccessGroup). g.object < h.object) groups
    pub raced : (g : AccessGroup) → Contains groups g → HasRace tables g.object
    pub each : (g : AccessGroup) → Contains groups g → AreObjectAccesses tables g.object g.accesses.items
    pub all : (object : ℕ) → HasRace tables object → (g : AccessGroup) × Contains groups g × (g.object ≡ object)

-- what groups tell: objects with their accesses
abbrev pub contents : List AccessGroup → List (ℕ × List ObjectAccess)
contents groups = map (λ g. (g.object, g.accesses.items)) groups

-- an access at the place, in one of the groups, races
pub record HasRacingAt (groups : List AccessGroup) (place : Place) : Type 0 where
  pub group : AccessGroup
  pub has_group : Contains groups group
  pub access : ObjectAccess
  pub has_access : Contains group.accesses.items access
  pub racing : access.racing ≡ true
  pub placed : access.place ≡ place
