-- What the list of assumptions promises of where the lives of objects begin: at a beginning that is not in the list, no
-- pointer to an earlier instance of the object is left over (C99 6.2.4p2, p5).
--
-- In
--     int *p, r;
--     __task(1) void t(void) { int i; for (i = 0; i < 2; i = i + 1) { int v = i; if (p) r = *p; p = &v; } }
-- a run comes to the beginning of v in the second turn while p holds a pointer to the v of the first one: so the list has
-- LIFETIME at the name of v, 2:69.
use Rattle.std.specs.Prelude.{◌≡◌, ◌≢◌, ℕ, ◌<◌, true, List, length, Contains, Some, slice_get}
use Rattle.sound_tables.specs.tm_terms.declared.places.Place.{Place}
use Rattle.sound_tables.specs.tm_typed.declared.types.Scalar.{Scalar}
use Rattle.sound_tables.specs.tm_laid.Layouts.{LaidTree, object_at, cell_of, is_shared}
use Rattle.sound_tables.specs.concrete_values.declared.values.Value.{Value}
use Rattle.sound_tables.specs.concrete_values.declared.values.Value.TheVariants.{Pointer as APointer}
use Rattle.sound_tables.specs.concrete_values.declared.values.Pointer.TheVariants as Pointers
use Rattle.sound_tables.specs.concrete_steps.declared.worlds.Content.TheVariants.{Is}
use Rattle.sound_tables.specs.concrete_steps.Worlds.{World}
use Rattle.sound_tables.specs.concrete_steps.Moves.{content_of}
use Rattle.sound_tables.specs.flow_graph.declared.operations.Into.{Into}
use Rattle.sound_tables.specs.flow_graph.declared.operations.Operation.{Operation}
use Rattle.sound_tables.specs.flow_graph.declared.operations.Operation.TheVariants as Op
use Rattle.sound_tables.specs.flow_graph.Graphs.{IsLive}
use Rattle.sound_tables.specs.flow_graph.Runs.{Memory}
use Rattle.sound_tables.specs.interfere_set.Stores.{Interferences}
use Rattle.sound_tables.specs.transfer_rows.StateForms.{State}
use Rattle.sound_tables.specs.program_reports.table_covers.Solutions.{NodeTable}
use Rattle.sound_tables.specs.program_equations.Programs.{ProgramBodies, body_at}
use Rattle.next_action_laws.specs.Actions.{MayUse}
use Rattle.path_origins.specs.declared.origins.Life.{Life}
use Rattle.edge_origins.specs.declared.origins.BodyOrigins.{BodyOrigins}
use Rattle.text_choices.specs.declared.kinds.Kind.TheVariants as Kinds
use Rattle.text_choices.specs.declared.kinds.Choice.{Choice}
use Rattle.operand_orders.specs.Reached.{IsOpen}
use Rattle.open_choices.specs.Lifetimes.{StoresThrough}
use Rattle.sound_choices.specs.Promises.{ComesTo, body_of, Has}
use Rattle.sound_choices.specs.Accesses.{Reaching, edge_of_copy}

-- a value is a pointer into the object
pub record LeadsTo (v : Value) (object : ℕ) : Type 0 where
  pub offset : ℕ
  pub is : v ≡ APointer (Pointers.To object offset)

-- with what lives begin: a local object is cleared, or an argument is stored to its parameter
pub data Begins : Operation → Type 0 where
  clears : {object : ℕ} → Begins (Op.Clear object)
  stores : {address value : ℕ} {scalar : Scalar} {into : Into} {place : Place}
      → Begins (Op.Store address value scalar into place)

-- A cell of an object holds a pointer into another object. The first one is of static storage, or of a call path of the
-- body.
pub record IsHeldIn (laid : LaidTree) (w : World) (t holder object : ℕ) : Type 0 where
  pub apart : holder ≢ object
  pub usable : (let o = object_at laid holder in MayUse laid t o.owner)
  pub offset : ℕ
  pub inside : (let o = object_at laid holder in offset < o.cells)
  pub value : Value
  pub holds : content_of w (cell_of laid holder offset) ≡ Is value
  pub leads : LeadsTo value object

module _ (laid : LaidTree) (p : ProgramBodies) where
  -- another task stores a pointer into an object to a cell of static storage, or would where a run comes
  pub record IsToldByTask (t object : ℕ) : Type 0 where
    pub world : World
    pub task : ℕ
    pub within : task < length laid.file.tasks
    pub other : task ≢ t
    pub copy : ℕ
    pub holder : ℕ
    pub static : is_shared laid holder ≡ true
    pub offset : ℕ
    pub comes : Reaching laid p world task copy holder offset true
    pub address : ℕ
    pub value : ℕ
    pub scalar : Scalar
    pub into : Into
    pub place : Place
    pub stores : (let r = comes in r.operation ≡ Op.Store address value scalar into place)
    pub leads : (let r = comes in let m = r.memory in LeadsTo (m.temps value) object)

  -- a run of a body comes to the beginning of a life that is noted of it
  pub record IsBeginning (origins : List BodyOrigins) (w : World) (t : ℕ) (noted : BodyOrigins) (life : Life)
      : Type 0 where
    pub there : slice_get origins t ≡ Some noted
    pub of : Contains noted.lives.items life
    pub copy : ℕ
    pub edge : edge_of_copy p t copy ≡ life.begins
    pub operation : Operation
    pub begins : Begins operation
    pub memory : Memory
    pub comes : ComesTo laid p w t copy operation memory

-- The runs are those of the source that is laid out so; of the other layout the objects and types are read.
module _ (laid seen : LaidTree) (p : ProgramBodies) (tables : ℕ → NodeTable State) (store : Interferences)
    (origins : List BodyOrigins) (choices : List Choice) where
  -- a pointer into the object of the life stands in a cell of another object that is open there
  abbrev pub ListsHeld : Type 0
  ListsHeld = (w : World) (t holder : ℕ) (noted : BodyOrigins) (life : Life)
      → IsBeginning laid p origins w t noted life
      → IsOpen (body_of laid seen p tables store origins choices t noted) life.begins holder
      → IsHeldIn laid w t holder life.object
      → Has laid seen p tables store origins choices Kinds.Lifetime life.place

  -- another task stores such a pointer to a cell of static storage
  abbrev pub ListsTold : Type 0
  ListsTold = (w : World) (t : ℕ) (noted : BodyOrigins) (life : Life)
      → IsBeginning laid p origins w t noted life
      → IsToldByTask laid p t life.object
      → Has laid seen p tables store origins choices Kinds.Lifetime life.place

  -- a temporary has such a pointer, and some way on from there uses it; it is not the address of the parameter itself
  abbrev pub ListsInUse : Type 0
  ListsInUse = (w : World) (t temp : ℕ) (noted : BodyOrigins) (life : Life)
      (b : IsBeginning laid p origins w t noted life)
      → (StoresThrough b.operation temp → ⊥)
      → (let body = body_at p t in let c = b.comes in let h = c.comes in IsLive body.edges temp h.place)
      → (let m = b.memory in LeadsTo (m.temps temp) life.object)
      → Has laid seen p tables store origins choices Kinds.Lifetime life.place

  pub record ListsBeginnings : Type 0 where
    pub held : ListsHeld
    pub told : ListsTold
    pub in_use : ListsInUse
