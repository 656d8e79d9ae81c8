-- The groups of what is noted of objects.
use Rattle.std.specs.Prelude.{◌≡◌, ℕ, ◌<◌, List, [], ◌∷◌, ◌++◌, Contains}
use Rattle.std.specs.declared.vec.Vec.{Vec}
use Rattle.access_races.specs.reading.Ways.{list_at}
use Rattle.access_groups.specs.declared.object_access.ObjectAccess.{ObjectAccess}
use Rattle.access_groups.specs.declared.object_access.AccessGroup.{AccessGroup}
use Rattle.access_races.specs.Rising.{AreRising}
use Rattle.access_groups.specs.reading.Merging.{AreMerged, HasRacing}

-- an object gets a group exactly where one of its accesses races
pub data IsGrouped (object : ℕ) (noted : List ObjectAccess) (old new : List AccessGroup) : Type 0 where
  none_races : (HasRacing noted → ⊥) → new ≡ old → IsGrouped object noted old new
  one_races : (g : AccessGroup) → g.object ≡ object → AreMerged noted g.accesses.items → HasRacing g.accesses.items
      → new ≡ old ++ g ∷ [] → IsGrouped object noted old new

-- the groups of the first objects
pub record AreGroupsOf {A : Type 0} (lists : List (Vec ObjectAccess A)) (n : ℕ) (groups : List AccessGroup) : Type 0 where
  pub below : (g : AccessGroup) → Contains groups g → g.object < n
  pub rising : AreRising (λ (g h : AccessGroup). g.object < h.object) groups
  pub merged : (g : AccessGroup) → Contains groups g → AreMerged (list_at lists g.object) g.accesses.items
  pub racing : (g : AccessGroup) → Contains groups g → HasRacing g.accesses.items
  pub all : (object : ℕ) → object < n → HasRacing (list_at lists object)
      → (g : AccessGroup) × Contains groups g × (g.object ≡ object)
