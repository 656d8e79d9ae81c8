-- What the copies of one body's edges give to a report.
use Rattle.std.specs.Prelude.{◌≡◌, ℕ, ◌<◌, Bool, true, false, List, get_or, Some, Contains}
use Rattle.tm_cint.specs.declared.Class.{Class}
use Rattle.tm_terms.specs.declared.alarms.Alarm.{Alarm}
use Rattle.tm_terms.specs.declared.places.Place.{Place}
use Rattle.flow_graph.specs.declared.operations.Operation.{Operation}
use Rattle.flow_graph.specs.declared.operations.Operation.TheVariants as Op
use Rattle.post_recheck.specs.transfer_rows.StateForms.{State}
use Rattle.post_recheck.specs.transfer_rows.Reports.{targets_of, IsListed}
use Rattle.post_recheck.specs.table_covers.Solutions.{NodeTable}
use Rattle.post_recheck.specs.task_equations.Bodies.{Body, edge_of, node_at, copy_at}
use Rattle.post_recheck.specs.task_equations.Equations.{action_along, around_along}
use Rattle.access_races.specs.declared.accesses.Way.{Way}
use Rattle.access_races.specs.declared.accesses.Access.{Access}
use Rattle.program_reports.specs.Reports.{place_of}

-- the operation writes the cells that it reaches
unfoldable pub is_writing : Operation → Bool
is_writing (Op.Store address value scalar into place) = true
is_writing operation = false

-- the alarm of a class that is noted
pub record IsClassIn (at : Place) (class : Class) (noted : Bool) (a : Alarm) : Type 0 where
  pub noted_it : noted ≡ true
  pub is : a ≡ record { place = at; class = class }

-- an access to one of these cells
pub record IsTargetIn (by : Way) (at : Place) (cells : List ℕ) (x : Access) : Type 0 where
  pub cell : Contains cells x.cell
  pub way : x.way ≡ by
  pub place : x.place ≡ at

module _ (b : Body) where
  abbrev pub operation_at : ℕ → Operation
  operation_at k = (let e = edge_of b (copy_at b k) in e.op)

  -- the way in which a copy reaches cells
  abbrev pub way_of_copy : ℕ → Way
  way_of_copy k = (let c = copy_at b k in let q = node_at b c.from in record {
    task = b.task;
    priority = get_or b.priorities b.task 0;
    held = q.held;
    found = q.found;
    writes = is_writing (operation_at k);
  })

  -- a copy does not exclude the alarm in this state
  pub record GivesAlarm (k : ℕ) (s : State) (a : Alarm) : Type 0 where
    pub listed : (let c = copy_at b k in IsListed (around_along b c) (action_along b c) s a.class)
    pub placed : place_of (operation_at k) ≡ Some a.place

  -- a copy reaches a cell in this state
  pub record GivesAccess (k : ℕ) (s : State) (x : Access) : Type 0 where
    pub target : Contains (targets_of (action_along b (copy_at b k)) s) x.cell
    pub way : x.way ≡ way_of_copy k
    pub placed : place_of (operation_at k) ≡ Some x.place

  module _ (table : NodeTable State) where
    -- one of the first copies, from a node with a state, gives it
    pub record IsGivenBelow (Gives : ℕ → State → Type 0) (n : ℕ) : Type 0 where
      pub copy : ℕ
      pub below : copy < n
      pub state : State
      pub reached : (let c = copy_at b copy in table c.from ≡ Some state)
      pub gives : Gives copy state

    abbrev pub IsAlarmBelow : ℕ → Alarm → Type 0
    IsAlarmBelow n a = IsGivenBelow (λ k s. GivesAlarm k s a) n

    abbrev pub IsAccessBelow : ℕ → Access → Type 0
    IsAccessBelow n x = IsGivenBelow (λ k s. GivesAccess k s x) n
