-- Where runs come, whether they stop there or only pass, and what the contexts of alarms tell of that.
--
-- In
--     int x;
--     __task(1) void a(void){int d=__input(0,3);x=8/d;}
-- the alarm of DIV at 2:46 has one edge, with the operands 8, and 0 to 3. Each run comes before this edge, one that
-- divides by 2 as well as one that stops; and whichever comes, 8 and its divisor lie in these operands. Where `d` is 0
-- always, control ends at this edge whatever other tasks store: then each run that comes before it ends there.
use Rattle.std.specs.Prelude.{◌≡◌, ℕ, true, List, [], ◌∷◌, ◌++◌, Some, Contains}
use Rattle.sound_tables.specs.tm_laid.Layouts.{LaidTree}
use Rattle.sound_tables.specs.concrete_values.declared.values.Value.{Value}
use Rattle.sound_tables.specs.concrete_values.declared.values.Answer.{Answer}
use Rattle.sound_tables.specs.concrete_values.declared.actions.Next.{Next}
use Rattle.sound_tables.specs.concrete_steps.declared.worlds.Choice.{Choice}
use Rattle.sound_tables.specs.concrete_steps.declared.worlds.Stepped.TheVariants.{Done}
use Rattle.sound_tables.specs.concrete_steps.NextAction.{next}
use Rattle.sound_tables.specs.concrete_steps.Worlds.{World, step, answers_of}
use Rattle.sound_tables.specs.concrete_steps.Occurring.{IsReached}
use Rattle.sound_tables.specs.flow_graph.Operations.{Temps, Silent, Asks, effect}
use Rattle.sound_tables.specs.flow_graph.Runs.{Memory, at_entry}
use Rattle.sound_tables.specs.flow_graph.Positions.{Reaches}
use Rattle.sound_tables.specs.mutex_configs.declared.nodes.ConfiguredNode.{ConfiguredNode}
use Rattle.sound_tables.specs.transfer_rows.StateForms.{State}
use Rattle.sound_tables.specs.program_reports.table_covers.Solutions.{NodeTable}
use Rattle.sound_tables.specs.program_reports.Reports.{copy_in, operation_in}
use Rattle.sound_tables.specs.program_equations.Programs.{ProgramBodies, body_at}
use Rattle.sound_tables.specs.Memberships.{number_at}
use Rattle.sound_runs.specs.Sources.{Sets, sets_after}
use Rattle.alarm_contexts.specs.declared.alarm_context.ContextEdge.{ContextEdge}
use Rattle.alarm_contexts.specs.declared.alarm_context.AlarmContexts.{AlarmContexts}
use Rattle.alarm_contexts.specs.Contexts.{IsContext}
use Rattle.sound_core.specs.Places.{MayAct}
use Rattle.sound_core.specs.Stops.{LiesWithin}

module _ (laid : LaidTree) (w : World) where
  -- what the body holds, and what it has found free
  abbrev pub sets_now : ℕ → Sets
  sets_now t = sets_after (next laid t) (answers_of w t)

  -- the configured node at a place of its graph, under these sets
  abbrev pub node_now : ℕ → ℕ → ConfiguredNode
  node_now t place = (let s = sets_now t in record { place = place; held = s.held; found = s.found })

module _ (laid : LaidTree) (p : ProgramBodies) (w : World) where
  -- The run of the body's graph over the answers of its task comes with this memory to the node that the copy of an
  -- edge leaves, under what the body holds and has found free: it stands there, or passes.
  pub record ComesBefore (t k : ℕ) (m : Memory) : Type 0 where
    pub place : ℕ
    pub comes : (let b = body_at p t in Reaches p.laid b.edges 0 at_entry (answers_of w t) place m)
    pub leaves : (let c = copy_in p t k in number_at p t (node_now laid w t place) ≡ Some c.from)

  -- and goes on along the edge by itself, with these temporaries
  pub record GoesOn (t k : ℕ) (m : Memory) : Type 0 where
    pub temps : Temps
    pub silent : effect p.laid (operation_in p t k) m.temps ≡ Silent temps

  -- a step answers what the edge asks there
  pub record IsAnswered (t k : ℕ) (m : Memory) : Type 0 where
    pub next : Next
    pub after : Value → Temps
    pub asks : effect p.laid (operation_in p t k) m.temps ≡ Asks next after
    pub choice : Choice
    pub done : (step laid w choice).answer ≡ Done
    pub answer : Answer
    pub more : answers_of (step laid w choice).world t ≡ answers_of w t ++ answer ∷ []

-- the edge of a copy
abbrev pub edge_in : ProgramBodies → ℕ → ℕ → ContextEdge
edge_in p t k = (let c = copy_in p t k in record { body = t; edge = c.edge })

module _ (laid : LaidTree) (p : ProgramBodies) (tables : ℕ → NodeTable State) where
  -- a run comes before a copy of an edge which does not exclude the class of the alarm, at its place
  pub record ComesToAlarm (w : World) (told : AlarmContexts) (t k : ℕ) (m : Memory) : Type 0 where
    pub reached : IsReached laid w
    pub may : MayAct laid w t
    pub state : State
    pub context : IsContext p tables told.place told.class t k state
    pub comes : ComesBefore laid p w t k m

  -- each time its values lie in the alarm's operands
  abbrev pub ListsOperands : List AlarmContexts → Type 0
  ListsOperands alarms = (w : World) (told : AlarmContexts) (t k : ℕ) (m : Memory) → Contains alarms told
      → ComesToAlarm w told t k m → LiesWithin laid p w told (edge_in p t k) m

  -- and no run goes on by itself from there where the alarm is one of always
  abbrev pub EndsAlways : List AlarmContexts → Type 0
  EndsAlways alarms = (w : World) (told : AlarmContexts) (t k : ℕ) (m : Memory) → Contains alarms told
      → told.always ≡ true → ComesToAlarm w told t k m → GoesOn laid p w t k m → ⊥

  -- Where the edge waits for an answer, which of operations with a class a lock and an unlock alone do, no step gives
  -- it: whoever comes there stops.
  abbrev pub StopsThere : AlarmContexts → Type 0
  StopsThere told = (w : World) (t k : ℕ) (m : Memory) → ComesToAlarm w told t k m → IsAnswered laid p w t k m → ⊥
