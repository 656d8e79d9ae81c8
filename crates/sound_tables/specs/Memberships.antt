-- What the tables and the store of an analysis hold, in terms of members.
use Rattle.std.specs.Prelude.{◌≡◌, ℕ, Bool, true, position, Option, Some, None}
use Rattle.program_shape.specs.concrete_values.declared.values.Pointer.{Pointer}
use Rattle.program_shape.specs.concrete_values.declared.values.Pointer.TheVariants as Pointers
use Rattle.program_shape.specs.concrete_values.declared.values.Value.{Value}
use Rattle.program_shape.specs.concrete_values.declared.values.Value.TheVariants.{Number, Pointer as APointer}
use Rattle.program_shape.specs.flow_graph.declared.graphs.Edge.{Edge}
use Rattle.program_shape.specs.flow_graph.declared.operations.Operation.{Operation}
use Rattle.program_shape.specs.flow_graph.Operations.{Temps}
use Rattle.program_shape.specs.mutex_configs.declared.nodes.ConfiguredNode.{ConfiguredNode}
use Rattle.program_shape.specs.mutex_configs.Nodes.{is_same_node}
use Rattle.program_reports.specs.pointer_dom.Pointer.{ScalarValue, number, pointer, null, invalid, to}
use Rattle.program_reports.specs.pointer_dom.Values.{IsValueIn}
use Rattle.program_reports.specs.interfere_set.Stores.{Interferences, reader_of}
use Rattle.program_reports.specs.transfer_rows.StateForms.{State, own_of}
use Rattle.program_reports.specs.transfer_rows.Actions.{Action, Around}
use Rattle.program_reports.specs.transfer_rows.Accesses.{is_among}
use Rattle.program_reports.specs.transfer_rows.Contributions.{entry_at}
use Rattle.program_reports.specs.transfer_rows.Reports.{targets_of, IsListed}
use Rattle.program_reports.specs.transfer_rows.Meanings.{Valuation}
use Rattle.program_reports.specs.transfer_rows.Covering.{AreIn, HasCell, IsCopyOf, IsPending, IsFresh, IsStored}
use Rattle.program_reports.specs.edge_actions.Layouts.{is_shared_cell, is_smashed_cell}
use Rattle.program_reports.specs.edge_actions.Edges.{action_of}
use Rattle.program_reports.specs.table_covers.Solutions.{NodeTable}
use Rattle.program_reports.specs.task_equations.Bodies.{live_at}
use Rattle.program_reports.specs.task_equations.Equations.{tests_pointer}
use Rattle.program_reports.specs.program_equations.Programs.{ProgramBodies, body_at}
use Rattle.program_shape.specs.tm_soundness.Numbered.{TaskOf}
use Rattle.program_shape.specs.tm_soundness.Tables.{Tables}
use Rattle.program_shape.specs.Shape.{Node, Copy, shape_of, from_of}
use Rattle.sound_tables.specs.Programs.{part_of, parts_of, section_alone}

-- ## Values

abbrev pub address_as : Pointer → ScalarValue
address_as Pointers.Null = pointer null
address_as Pointers.Invalid = pointer invalid
address_as (Pointers.To object offset) = pointer (to object offset)

-- a value as sets of values have it
abbrev pub scalar_as : Value → ScalarValue
scalar_as (Number z) = number z
scalar_as (APointer p) = address_as p

abbrev pub scalars_as : Temps → Valuation
scalars_as temps t = scalar_as (temps t)

-- ## States

abbrev pub found_at : NodeTable State → Option ℕ → Option State
found_at table None = None
found_at table (Some n) = table n

-- each copy is one of a cell that the state has
abbrev pub CopiesStand : State → Type 0
CopiesStand s = (u x : ℕ) → IsCopyOf s u x → HasCell s x

-- a part of a state that is there
pub record HasState (reached : Option State) (part : State → Type 0) : Type 0 where
  pub state : State
  pub is : reached ≡ Some state
  pub holds : part state

module _ (p : ProgramBodies) where
  -- the number of a configured node of a body
  abbrev pub number_at : ℕ → ConfiguredNode → Option ℕ
  number_at t q = (let b = body_at p t in position (is_same_node q) b.nodes)

  -- what surrounds an edge of a body that leaves a node
  abbrev pub around_at : ℕ → ConfiguredNode → Edge → Around
  around_at t q e = record {
    reader = reader_of t q.held q.found p.priorities;
    is_shared = is_shared_cell p.laid;
    is_smashed = is_smashed_cell p.laid;
    is_live = is_among (live_at (body_at p t) e.to);
  }

  -- an operation of a body, with the answer of its copy, as an action
  abbrev pub action_at : ℕ → Bool → Operation → Action
  action_at t answer op = (let b = body_at p t in action_of p.laid t (tests_pointer b.pointers op) answer op)

-- ## Tables

module _ (p : ProgramBodies) (n : ℕ) (number : TaskOf n → ℕ) (rank : ℕ → ℕ) (tables : ℕ → NodeTable State) where
  abbrev pub there : Node (part_of p n number rank) → ConfiguredNode
  there q = record { place = q.place; held = q.held; found = q.found }

  abbrev pub left : Copy (part_of p n number rank) → ConfiguredNode
  left e = record { place = e.edge.from; held = e.held; found = e.found }

  -- the state of a node, if it is reached
  abbrev pub state_at : Node (part_of p n number rank) → Option State
  state_at q = found_at (tables (number q.task)) (number_at p (number q.task) (there q))

  abbrev pub around_copy : Copy (part_of p n number rank) → Around
  around_copy e = around_at p (number e.actor) (left e) e.edge

  abbrev pub action_copy : Copy (part_of p n number rank) → Action
  action_copy e = action_at p (number e.actor) e.answer e.edge.op

  -- the tables of an analysis, and what it knows of the store
  abbrev pub tables_with : (TaskOf n → ℕ → ℕ → Value → Type 0) → (TaskOf n → ℕ → ℕ → Value → Type 0)
      → Tables (shape_of (part_of p n number rank))
  tables_with weak sync = record {
    inside = λ q temps. HasState (state_at q) (λ s. AreIn s (scalars_as temps) × CopiesStand s);
    own = λ q x v. HasState (state_at q) (λ s. IsValueIn (own_of s x) (scalar_as v));
    pending = λ q x m. HasState (state_at q) (λ s. IsPending s x m);
    fresh = λ q x. HasState (state_at q) (λ s. IsFresh s x);
    stored = λ q x. HasState (state_at q) (λ s. IsStored s x);
    copy = λ q t x. HasState (state_at q) (λ s. IsCopyOf s t x);
    weak = weak;
    sync = sync;
    listed = λ e class. HasState (state_at (from_of (part_of p n number rank) e))
        (λ s. IsListed (around_copy e) (action_copy e) s class);
    target = λ e x. HasState (state_at (from_of (part_of p n number rank) e))
        (λ s. is_among (targets_of (action_copy e) s) x ≡ true);
  }

-- of the tasks, with the entries of a store
abbrev pub tables_of : (p : ProgramBodies) → (ℕ → NodeTable State) → Interferences → Tables (shape_of (parts_of p))
tables_of p tables store =
    tables_with p p.tasks (parts_of p).number (parts_of p).rank tables
    (λ j l x v. IsValueIn (entry_at store.weak ((parts_of p).number j) l x) (scalar_as v))
    (λ j m x v. IsValueIn (entry_at store.sync ((parts_of p).number j) m x) (scalar_as v))

-- of the initial section, which hears nobody: what it adds is left out
abbrev pub section_tables : (p : ProgramBodies) → (ℕ → NodeTable State) → Tables (shape_of (section_alone p))
section_tables p tables =
    tables_with p 1 (section_alone p).number (section_alone p).rank tables (λ j l x v. Unit {0}) (λ j m x v. Unit {0})

-- tables that hold nothing, for tasks that never begin
abbrev pub nothing_of : (p : ProgramBodies) → Tables (shape_of (parts_of p))
nothing_of p =
    tables_with p p.tasks (parts_of p).number (parts_of p).rank (λ t n. None) (λ j l x v. Unit {0})
    (λ j m x v. Unit {0})
