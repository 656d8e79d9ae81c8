-- The contexts of the alarms of tables: at which edges a class is not excluded, and what stands there.
--
-- In
--     int x;
--     int f(int d){return 8/d;}
--     __task(1) void a(void){x=f(0);x=f(2);x=f(__input(0,3));}
-- the operation at 2:22 has three edges in the body of a, one for each call. The alarm of DIV there has two of them,
-- those of the first and the last call. Its operands are 8, and 0 to 3; with the edge of the second call they would be
-- the same, but were the last call not there, they would be 8 and 0 alone. Behind the last one control goes on, so the
-- alarm is not one of always. It has no pointers, with which something could be wrong.
use Rattle.std.specs.Prelude.{◌≡◌, ◌↔◌, ℕ, ◌<◌, Bool, true, List, length, get_or, map, Contains, Some, None}
use Rattle.tm_cint.specs.declared.Class.{Class}
use Rattle.tm_terms.specs.declared.alarms.Alarm.{Alarm}
use Rattle.tm_terms.specs.declared.places.Place.{Place}
use Rattle.tm_terms.specs.Alarms.{IsStrictlySorted}
use Rattle.flow_graph.specs.Operations.{used}
use Rattle.interfere_set.specs.pointer_dom.Values.{Values, no_value}
use Rattle.interfere_set.specs.Stores.{Interferences}
use Rattle.program_reports.specs.post_recheck.transfer_rows.StateForms.{State, value_of}
use Rattle.program_reports.specs.post_recheck.transfer_rows.Rows.{after}
use Rattle.program_reports.specs.post_recheck.transfer_rows.Reports.{IsListed}
use Rattle.program_reports.specs.post_recheck.table_covers.Solutions.{NodeTable}
use Rattle.program_reports.specs.post_recheck.task_equations.Equations.{action_along, around_along}
use Rattle.program_reports.specs.post_recheck.program_equations.Programs.{ProgramBodies, body_at}
use Rattle.program_reports.specs.Reports.{place_of, copy_in, operation_in, IsReachedIn}
use Rattle.alarm_contexts.specs.declared.alarm_context.ContextEdge.{ContextEdge}
use Rattle.alarm_contexts.specs.declared.alarm_context.AlarmContexts.{AlarmContexts}
use Rattle.alarm_contexts.specs.declared.flaws.ObjectFlaw.{ObjectFlaw}
use Rattle.access_races.specs.Rising.{AreRising}
use Rattle.alarm_contexts.specs.Order.{IsEdgeBefore, IsFlawBefore}
use Rattle.alarm_contexts.specs.Bounds.{IsLeastAbove}
use Rattle.alarm_contexts.specs.Flaws.{HasFlaw}

module _ (p : ProgramBodies) (tables : ℕ → NodeTable State) (place : Place) (class : Class) where
  -- ## Contexts

  -- A copy of an edge of the body leaves a reached node in this state, does not exclude the class, and stands at the
  -- place: what makes the class one of the report there.
  pub record IsContext (t k : ℕ) (s : State) : Type 0 where
    pub reached : IsReachedIn p tables t k s
    pub listed : (let b = body_at p t in let c = copy_in p t k in
        IsListed (around_along b c) (action_along b c) s class)
    pub placed : place_of (operation_in p t k) ≡ Some place

  -- there is one
  pub record HasContext : Type 0 where
    pub body : ℕ
    pub copy : ℕ
    pub state : State
    pub context : IsContext body copy state

  -- ## Edges

  -- it is one of a copy of this edge
  pub record IsEdge (e : ContextEdge) : Type 0 where
    pub copy : ℕ
    pub state : State
    pub context : IsContext e.body copy state
    pub edge : (let c = copy_in p e.body copy in c.edge ≡ e.edge)

  -- ## Operands

  -- in a context the operation uses so many temporaries that one has this number, counted from 0
  pub record HasOperand (role : ℕ) : Type 0 where
    pub body : ℕ
    pub copy : ℕ
    pub state : State
    pub context : IsContext body copy state
    pub within : role < length (used (operation_in p body copy))

  -- in a context the temporary with this number has this value
  pub record IsOperand (role : ℕ) (v : Values) : Type 0 where
    pub body : ℕ
    pub copy : ℕ
    pub state : State
    pub context : IsContext body copy state
    pub within : role < length (used (operation_in p body copy))
    pub value : v ≡ value_of state (get_or (used (operation_in p body copy)) role 0)

  -- ## Pointers

  -- in a context this is wrong with the pointers to an object that the operation follows or moves
  pub record IsFlaw (f : ObjectFlaw) : Type 0 where
    pub body : ℕ
    pub copy : ℕ
    pub state : State
    pub context : IsContext body copy state
    pub flaw : (let operation = operation_in p body copy in
        HasFlaw p.laid operation (map (value_of state) (used operation)) f)

  -- ## Control

  -- in each context control does not go on, whatever other tasks store
  abbrev pub IsAlways : Type 0
  IsAlways = (t k : ℕ) (s : State) → IsContext t k s → (store : Interferences)
      → (let b = body_at p t in let c = copy_in p t k in
      after (around_along b c) (action_along b c) s store ≡ None)

module _ (p : ProgramBodies) (tables : ℕ → NodeTable State) where
  -- There is a context. The edges are exactly those of contexts, in order and each once; there is an operand for each
  -- temporary that the operation uses in a context, with all values that it has in contexts and as few others as can
  -- be: an operation that uses fewer temporaries adds nothing to operands that it has not; the flaws are exactly those
  -- of contexts, in order and each once; and it is told whether control ever goes on.
  pub record IsContextOf (a : AlarmContexts) : Type 0 where
    pub some : HasContext p tables a.place a.class
    pub rising : AreRising IsEdgeBefore a.edges.items
    pub edges : (e : ContextEdge) → Contains a.edges.items e ↔ IsEdge p tables a.place a.class e
    pub count : (role : ℕ) → (role < length a.operands.items) ↔ HasOperand p tables a.place a.class role
    pub operands : (role : ℕ)
        → IsLeastAbove (IsOperand p tables a.place a.class role) (get_or a.operands.items role no_value)
    pub ordered : AreRising IsFlawBefore a.flaws.items
    pub flaws : (f : ObjectFlaw) → Contains a.flaws.items f ↔ IsFlaw p tables a.place a.class f
    pub always : (a.always ≡ true) ↔ IsAlways p tables a.place a.class

-- the alarm by itself
abbrev pub alarm_of : AlarmContexts → Alarm
alarm_of a = record { place = a.place; class = a.class }

-- one of them is of the class at the place
pub record HasAlarm (alarms : List AlarmContexts) (place : Place) (class : Class) : Type 0 where
  pub one : AlarmContexts
  pub has : Contains alarms one
  pub is : alarm_of one ≡ record { place = place; class = class }

-- exactly the alarms that have contexts, in the order of reports and each once
pub record AreContexts (p : ProgramBodies) (tables : ℕ → NodeTable State) (alarms : List AlarmContexts) : Type 0 where
  pub sorted : IsStrictlySorted (map alarm_of alarms)
  pub each : (a : AlarmContexts) → Contains alarms a → IsContextOf p tables a
  pub all : (place : Place) (class : Class) → HasContext p tables place class → HasAlarm alarms place class

-- ## What is told

-- the alarm, its edges, its operands, what is wrong with pointers, and whether control ever goes on
abbrev pub Content : Type 0
Content = Alarm × List ContextEdge × List Values × List ObjectFlaw × Bool

abbrev pub content : AlarmContexts → Content
content a = (alarm_of a, a.edges.items, a.operands.items, a.flaws.items, a.always)

abbrev pub contents : List AlarmContexts → List Content
contents alarms = map content alarms
