-- Places of locks at which tasks may wait for each other in a ring, as the tables of a program tell.
--
-- In
--     __mutex m;__mutex n;
--     __task(1) void a(void){__lock(m);__lock(n);__unlock(n);__unlock(m);}
--     __task(1) void b(void){__lock(n);__lock(m);__unlock(m);__unlock(n);}
-- the task a requests m while it holds nothing, at 2:24, and n while it holds m, at 2:34; b requests n at 3:24, and m
-- while it holds n, at 3:34. The requests at 2:34 and 3:34 lead to each other: these are the places, and the two requests
-- are the ring at each of them, beginning with the one that stands there.
use Rattle.std.specs.Prelude.{◌≡◌, ℕ, ◌<◌, false, List, length, Option}
use Rattle.tm_terms.specs.declared.places.Place.{Place}
use Rattle.flow_graph.specs.declared.operations.Operation.TheVariants as Op
use Rattle.mutex_configs.specs.Sets.{has}
use Rattle.mutex_configs.specs.declared.programs.Program.{Program}
use Rattle.request_circles.specs.declared.requests.Request.{Request}
use Rattle.request_circles.specs.declared.rings.Ring.{Ring}
use Rattle.request_circles.specs.Requests as circles
use Rattle.request_circles.specs.Rings.{AreShortestRings}
use Rattle.program_reports.specs.post_recheck.transfer_rows.StateForms.{State}
use Rattle.program_reports.specs.post_recheck.table_covers.Solutions.{NodeTable}
use Rattle.program_reports.specs.post_recheck.program_equations.Programs.{ProgramBodies, body_at}
use Rattle.program_reports.specs.post_recheck.program_equations.Solutions.{table_at}
use Rattle.program_reports.specs.post_recheck.program_systems.ProgramFacts.{AllFacts, AreProgramFacts, program_with}
use Rattle.program_reports.specs.Reports.{operation_in, left_in, IsReachedIn}

module _ (p : ProgramBodies) (tables : ℕ → NodeTable State) where
  -- a copy of a task's edge that leaves a reached node locks the mutex, which is not held there
  pub record IsRequest (r : Request) : Type 0 where
    pub task : r.task < p.tasks
    pub copy : ℕ
    pub state : State
    pub reached : IsReachedIn p tables r.task copy state
    pub is : operation_in p r.task copy ≡ Op.Lock r.mutex r.place
    pub held : (let q = left_in p r.task copy in q.held ≡ r.held)
    pub not_held : has r.held r.mutex ≡ false

  -- a request that leads back to itself, over one step or more
  abbrev pub IsCircular : Request → Type 0
  IsCircular = circles.IsCircular IsRequest

  -- a circular request stands at the place
  abbrev pub IsWait : Place → Type 0
  IsWait = circles.IsCircularPlace IsRequest

  -- exactly the places of circular requests, in order and without repeats
  abbrev pub AreWaits : List Place → Type 0
  AreWaits = circles.AreCircularPlaces IsRequest

  -- for each of these places, in their order, a shortest ring of requests that begins there
  abbrev pub AreRings : List Ring → Type 0
  AreRings = AreShortestRings IsRequest

-- The program has facts; and each of its bodies has a table, with a state or none for each of its nodes.
pub record HaveTables (program : Program) (tables : List (List (Option State))) : Type 0 where
  pub facts : AllFacts
  pub are : AreProgramFacts program facts
  pub count : (let p = program_with program facts in length tables ≡ length p.bodies)
  pub nodes : (t : ℕ) → (let p = program_with program facts in t < length p.bodies)
      → (let b = body_at (program_with program facts) t in length (table_at tables t) ≡ length b.nodes)
