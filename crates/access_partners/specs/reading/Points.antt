-- The points that accesses reach, and which of them race.
use Rattle.std.specs.Prelude.{◌≡◌, ◌↔◌, ℕ, ◌<◌, ◌≤◌, ◌==◌, Bool, true, not, ◌&&◌, ◌||◌, List, length, get_or, Contains}
use Rattle.std.specs.List.Sorted.{IsNonDecreasingBy}
use Rattle.std.specs.declared.vec.Vec.{Vec}
use Rattle.interfere_set.specs.Stores.{are_apart}
use Rattle.access_races.specs.declared.accesses.Way.{Way}
use Rattle.access_races.specs.Races.{do_race}
use Rattle.access_groups.specs.declared.object_access.ObjectAccess.{ObjectAccess}
use Rattle.access_races.specs.reading.Ways.{list_at, HasOne}
use Rattle.access_groups.specs.declared.site.Site.{Site}
use Rattle.access_partners.specs.declared.points.Point.{Point}

-- what stands in place of one that there is not
abbrev pub no_point : Point
no_point = record { cell = 0; found = 0; priority = 0 }

-- the point that it reaches
abbrev pub point_of : Site → Point
point_of x = record {
  cell = x.access.cell;
  found = x.access.way.found;
  priority = x.access.way.priority;
}

-- the way in which an access reaches a point
abbrev pub way_at : ObjectAccess → Point → Way
way_at e q = record {
  task = e.task;
  priority = q.priority;
  held = e.held;
  found = q.found;
  writes = e.stores;
}

-- one of these reaches the point
abbrev pub IsPointOf : List Site → Point → Type 0
IsPointOf sites q = HasOne (λ (x : Site). q ≡ point_of x) sites

-- they stand by their cells
abbrev pub AreByCells : List Point → Type 0
AreByCells points = IsNonDecreasingBy (λ (q : Point). q.cell) points

-- exactly the points that these reach, by their cells
pub record ArePointsOf (sites : List Site) (points : List Point) : Type 0 where
  pub rising : AreByCells points
  pub exact : (q : Point) → Contains points q ↔ IsPointOf sites q

-- for each access
pub record ArePointsBy {A B : Type 0} (lists : List (Vec Site A)) (points : List (Vec Point B)) : Type 0 where
  pub count : length points ≡ length lists
  pub each : (i : ℕ) → i < length lists → ArePointsOf (list_at lists i) (list_at points i)

-- this many have lesser cells
pub record IsFirstFrom (points : List Point) (cell n : ℕ) : Type 0 where
  pub within : n ≤ length points
  pub before : (k : ℕ) → k < n → (let q = get_or points k no_point in q.cell < cell)
  pub after : (k : ℕ) → n ≤ k → k < length points → (let q = get_or points k no_point in cell ≤ q.cell)

-- an access to the cell in this way races with one of the points of another
abbrev pub Meets : Way → ℕ → ObjectAccess → List Point → Type 0
Meets w cell other points = HasOne (λ (q : Point). (q.cell ≡ cell) × (do_race w (way_at other q) ≡ true)) points

-- one of the points of an access races with one of the points of another
abbrev pub DoMeet : ObjectAccess → List Point → ObjectAccess → List Point → Type 0
DoMeet one points other other_points = HasOne (λ (q : Point). Meets (way_at one q) q.cell other other_points) points

-- two may race as far as their tasks, their kinds and the mutexes that are held tell
abbrev pub may_race : ObjectAccess → ObjectAccess → Bool
may_race one other = not (one.task == other.task) && (one.stores || other.stores) && are_apart one.held other.held
