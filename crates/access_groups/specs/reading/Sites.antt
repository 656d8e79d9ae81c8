-- The accesses of tasks, each with its edge.
use Rattle.std.specs.Prelude.{◌≡◌, ℕ, ◌<◌, false, List, length, Option, Some, None}
use Rattle.tm_terms.specs.declared.places.Place.{Place}
use Rattle.flow_graph.specs.declared.operations.Operation.{Operation}
use Rattle.flow_graph.specs.declared.operations.Operation.TheVariants as Op
use Rattle.program_reports.specs.post_recheck.transfer_rows.StateForms.{State}
use Rattle.program_reports.specs.post_recheck.table_covers.Solutions.{NodeTable}
use Rattle.program_reports.specs.post_recheck.task_equations.Bodies.{Body, copy_at}
use Rattle.program_reports.specs.post_recheck.program_equations.Programs.{ProgramBodies, body_at}
use Rattle.access_races.specs.declared.accesses.Way.{Way}
use Rattle.access_races.specs.reading.Ways.{no_access, HasOne}
use Rattle.program_reports.specs.reading.Found.{IsTargetIn, GivesAccess, IsGivenBelow}
use Rattle.program_reports.specs.reading.Bodies.{IsGivenUpTo}
use Rattle.access_groups.specs.declared.object_access.ObjectAccess.{ObjectAccess}
use Rattle.access_groups.specs.declared.site.Site.{Site}

-- what stands in place of one that there is not
abbrev pub no_site : Site
no_site = record { access = no_access; edge = 0 }

-- the access of an object that it makes; whether that races is left open
abbrev pub access_of : Site → ObjectAccess
access_of x = record {
  place = x.access.place;
  task = x.access.way.task;
  stores = x.access.way.writes;
  held = x.access.way.held;
  free = x.access.way.found;
  racing = false;
}

-- ## Of copies and of tasks

-- where an operation stands that reaches cells
unfoldable pub access_place : Operation → Option Place
access_place (Op.Load to address scalar place) = Some place
access_place (Op.LoadAny to address scalar place) = Some place
access_place (Op.Store address value scalar into place) = Some place
access_place operation = None

-- an access to one of these cells, at the edge
pub record IsTargetSite (by : Way) (at : Place) (along : ℕ) (cells : List ℕ) (x : Site) : Type 0 where
  pub access : IsTargetIn by at cells x.access
  pub edge : x.edge ≡ along

module _ (b : Body) where
  -- a copy reaches a cell in this state
  pub record GivesSite (k : ℕ) (s : State) (x : Site) : Type 0 where
    pub access : GivesAccess b k s x.access
    pub edge : (let c = copy_at b k in x.edge ≡ c.edge)

  -- one of the first copies, from a node with a state, does
  abbrev pub IsSiteBelow : NodeTable State → ℕ → Site → Type 0
  IsSiteBelow table n x = IsGivenBelow b table (λ k s. GivesSite k s x) n

module _ (p : ProgramBodies) (tables : ℕ → NodeTable State) where
  -- a task gives the access
  abbrev pub IsSiteOf : ℕ → Site → Type 0
  IsSiteOf t x = (t < p.tasks) × (let b = body_at p t in IsSiteBelow b (tables t) (length b.copies) x)

  -- one of the first bodies does
  abbrev pub IsSiteUpTo : ℕ → Site → Type 0
  IsSiteUpTo n x = IsGivenUpTo (λ t. IsSiteOf t x) n

-- ## Among these

-- one of them reaches the cell in this way
abbrev pub IsWayOfSite : List Site → ℕ → Way → Type 0
IsWayOfSite sites cell w = HasOne (λ (x : Site). (cell ≡ x.access.cell) × (w ≡ x.access.way)) sites
