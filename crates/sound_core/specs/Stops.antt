-- Where runs stop with errors, and what the contexts of alarms tell of that.
--
-- In
--     int x;
--     __task(1) void a(void){int d=__input(0,3);x=8/d;}
-- the alarm of DIV at 2:46 has one edge, with the operands 8, and 0 to 3. A run in which d is 0 stops there: its body
-- stands before this edge, and 8 and 0 lie in these operands.
use Rattle.std.specs.Prelude.{◌≡◌, ℕ, ◌<◌, List, length, get_or, Contains}
use Rattle.sound_tables.specs.tm_cint.declared.Class.{Class}
use Rattle.sound_tables.specs.tm_terms.declared.places.Place.{Place}
use Rattle.sound_tables.specs.tm_laid.Layouts.{LaidTree}
use Rattle.sound_tables.specs.concrete_steps.NextAction.{next}
use Rattle.sound_tables.specs.concrete_steps.declared.worlds.Choice.{Choice}
use Rattle.sound_tables.specs.concrete_steps.declared.worlds.Stepped.TheVariants.{Stopped}
use Rattle.sound_tables.specs.concrete_steps.Worlds.{World, step, answers_of}
use Rattle.sound_tables.specs.concrete_steps.Occurring.{IsReached}
use Rattle.sound_tables.specs.flow_graph.declared.graphs.Edge.{Edge}
use Rattle.sound_tables.specs.flow_graph.Operations.{used}
use Rattle.sound_tables.specs.flow_graph.Runs.{Memory}
use Rattle.sound_tables.specs.flow_graph.Positions.{StandsAt}
use Rattle.sound_tables.specs.program_equations.Programs.{ProgramBodies, body_at}
use Rattle.sound_tables.specs.program_reports.pointer_dom.Values.{IsValueIn, no_value}
use Rattle.sound_tables.specs.task_equations.Bodies.{no_edge}
use Rattle.sound_tables.specs.Memberships.{scalar_as}
use Rattle.alarm_contexts.specs.declared.alarm_context.ContextEdge.{ContextEdge}
use Rattle.alarm_contexts.specs.declared.alarm_context.AlarmContexts.{AlarmContexts}
use Rattle.alarm_contexts.specs.Contexts.{alarm_of}

-- the edge of a body's graph with this number
abbrev pub edge_with : ProgramBodies → ContextEdge → Edge
edge_with p e = (let b = body_at p e.body in get_or b.edges e.edge no_edge)

module _ (laid : LaidTree) (p : ProgramBodies) (w : World) where
  -- the run of the body's graph over the answers of its task has come to the node that the edge leaves
  abbrev pub StandsBefore : ContextEdge → Memory → Type 0
  StandsBefore e m = (let b = body_at p e.body in
      StandsAt p.laid b.edges (next laid e.body) (answers_of w e.body) (edge_with p e).from m)

  -- each temporary that the edge uses has a value of the operand that is told
  abbrev pub LiesWithin : AlarmContexts → ContextEdge → Memory → Type 0
  LiesWithin told e m = (role : ℕ) → role < length (used (edge_with p e).op)
      → IsValueIn (get_or told.operands.items role no_value) (scalar_as (m.temps (get_or (used (edge_with p e).op) role 0)))

  -- One of the alarms is of the class at the place, and a body stands before one of its edges, with values that lie in
  -- its operands.
  pub record IsToldStop (alarms : List AlarmContexts) (class : Class) (place : Place) : Type 0 where
    pub told : AlarmContexts
    pub has : Contains alarms told
    pub is : alarm_of told ≡ record { place = place; class = class }
    pub edge : ContextEdge
    pub has_edge : Contains told.edges.items edge
    pub memory : Memory
    pub stands : StandsBefore edge memory
    pub operands : LiesWithin told edge memory

-- wherever a run stops with an error, one of the alarms tells it so
abbrev pub ListsStops : LaidTree → ProgramBodies → List AlarmContexts → Type 0
ListsStops laid p alarms = (w : World) → IsReached laid w → (choice : Choice) (class : Class) (place : Place)
    → (step laid w choice).answer ≡ Stopped class place → IsToldStop laid p w alarms class place
