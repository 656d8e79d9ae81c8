-- What the list of assumptions promises of the cells that runs load and store.
--
-- In
--     int x; int f(void) { x = 5; return 1; }
--     __task(1) void t(void) { x += f(); }
-- a run comes to the load of x on the left side, and a run comes to the store of x in f on the right one: so the list
-- has ORDER at the `+=`. Had it none there, no cell that runs load on the one side would be one that runs store on the
-- other.
use Rattle.std.specs.Prelude.{◌≡◌, ◌≢◌, ◌⊎◌, ℕ, ◌<◌, Bool, true, false, List, length, Contains, Some}
use Rattle.sound_tables.specs.tm_terms.declared.places.Place.{Place}
use Rattle.sound_tables.specs.tm_laid.Layouts.{LaidTree, object_at, cell_of, is_shared}
use Rattle.sound_tables.specs.tm_typed.declared.types.Scalar.{Scalar}
use Rattle.sound_tables.specs.concrete_values.declared.values.Value.TheVariants.{Pointer as APointer}
use Rattle.sound_tables.specs.concrete_values.declared.values.Pointer.TheVariants as Pointers
use Rattle.sound_tables.specs.concrete_steps.declared.worlds.Content.TheVariants.{Open}
use Rattle.sound_tables.specs.concrete_steps.Worlds.{World}
use Rattle.sound_tables.specs.concrete_steps.Moves.{content_of}
use Rattle.sound_tables.specs.flow_graph.declared.operations.Into.{Into}
use Rattle.sound_tables.specs.flow_graph.declared.operations.Into.TheVariants as Intos
use Rattle.sound_tables.specs.flow_graph.declared.operations.Operation.{Operation}
use Rattle.sound_tables.specs.flow_graph.declared.operations.Operation.TheVariants as Op
use Rattle.sound_tables.specs.flow_graph.Runs.{Memory}
use Rattle.sound_tables.specs.interfere_set.Stores.{Interferences}
use Rattle.sound_tables.specs.transfer_rows.StateForms.{State}
use Rattle.sound_tables.specs.program_reports.table_covers.Solutions.{NodeTable}
use Rattle.sound_tables.specs.program_reports.Reports.{copy_in, place_of}
use Rattle.sound_tables.specs.program_equations.Programs.{ProgramBodies}
use Rattle.sound_tables.specs.program_shape.Shape.{abstract_of_cell}
use Rattle.part_extents.specs.Parts.{is_constant, inside_of}
use Rattle.path_origins.specs.declared.origins.Unsequenced.{Unsequenced}
use Rattle.path_origins.specs.declared.origins.Reload.{Reload}
use Rattle.path_origins.specs.declared.origins.Overwrite.{Overwrite}
use Rattle.path_origins.specs.declared.origins.Life.{Life}
use Rattle.edge_origins.specs.declared.origins.Fall.{Fall}
use Rattle.edge_origins.specs.declared.origins.BodyOrigins.{BodyOrigins}
use Rattle.text_choices.specs.declared.kinds.Kind.TheVariants as Kinds
use Rattle.text_choices.specs.declared.kinds.Choice.{Choice}
use Rattle.operand_orders.specs.Reached.{IsWithin}
use Rattle.operand_orders.specs.Order.{Waits, IsInitialising}
use Rattle.open_choices.specs.Unset.{IsUninitialised}
use Rattle.open_choices.specs.Members.{Compares}
use Rattle.sound_choices.specs.Promises.{ComesTo, body_of, origin_of, IsNotedOf, Has}

-- an operation loads through an address, or stores: a scalar of this type
pub data Accesses : Operation → ℕ → Scalar → Bool → Type 0 where
  loads : {to address : ℕ} {scalar : Scalar} {place : Place}
      → Accesses (Op.Load to address scalar place) address scalar false
  loads_any : {to address : ℕ} {scalar : Scalar} {place : Place}
      → Accesses (Op.LoadAny to address scalar place) address scalar false
  stores : {address value : ℕ} {scalar : Scalar} {into : Into} {place : Place}
      → Accesses (Op.Store address value scalar into place) address scalar true

module _ (laid : LaidTree) (p : ProgramBodies) where
  -- a run comes before a copy of an edge that loads or stores this cell of this object
  pub record Reaching (w : World) (t k object offset : ℕ) (is_store : Bool) : Type 0 where
    pub operation : Operation
    pub memory : Memory
    pub comes : ComesTo laid p w t k operation memory
    pub address : ℕ
    pub scalar : Scalar
    pub accesses : Accesses operation address scalar is_store
    pub points : memory.temps address ≡ APointer (Pointers.To object offset)

  -- another task stores the cell, or would where a run comes
  pub record IsStoredByTask (t object offset : ℕ) : Type 0 where
    pub world : World
    pub task : ℕ
    pub copy : ℕ
    pub within : task < length laid.file.tasks
    pub other : task ≢ t
    pub stores : Reaching world task copy object offset true

  -- What an edge does before which a run comes other tasks see, or it sees what they do: it waits or asks for a mutex,
  -- stores to an object of static storage, or loads of one what another task stores.
  pub data ActsOpenly (w : World) (t k : ℕ) : Type 0 where
    waits_there : {op : Operation} {m : Memory} → ComesTo laid p w t k op m → Waits op → ActsOpenly w t k
    stores_static : {object offset : ℕ} → is_shared laid object ≡ true → Reaching w t k object offset true
        → ActsOpenly w t k
    loads_static : {object offset : ℕ} → is_shared laid object ≡ true → Reaching w t k object offset false
        → IsStoredByTask t object offset → ActsOpenly w t k

-- the one edge is of one operand, and the other of the other
abbrev pub AreOfBoth : Unsequenced → ℕ → ℕ → Type 0
AreOfBoth pair edge other = (IsWithin edge pair.first × IsWithin other pair.second)
    ⊎ (IsWithin edge pair.second × IsWithin other pair.first)

-- the edge of a copy
abbrev pub edge_of_copy : ProgramBodies → ℕ → ℕ → ℕ
edge_of_copy p t k = (let c = copy_in p t k in c.edge)

-- The runs are those of the source that is laid out so; of the other layout the objects and types are read.
module _ (laid seen : LaidTree) (p : ProgramBodies) (tables : ℕ → NodeTable State) (store : Interferences)
    (origins : List BodyOrigins) (choices : List Choice) where
  -- Two operands of which C99 leaves the order open, and a cell that one stores and the other loads or stores; not both
  -- as initialisers do (C99 6.5p2).
  abbrev pub ListsTouched : Type 0
  ListsTouched = (w v : World) (t k l object offset : ℕ) (one other : Bool) (noted : BodyOrigins)
      (pair : Unsequenced) → IsNotedOf laid seen p tables store origins choices t noted
      → Contains noted.operands.items pair
      → Reaching laid p w t k object offset one → IsWithin (edge_of_copy p t k) pair.first
      → Reaching laid p v t l object offset other → IsWithin (edge_of_copy p t l) pair.second
      → (one ≡ true) ⊎ (other ≡ true)
      → (one ≡ other → IsInitialising (body_of laid seen p tables store origins choices t noted) (edge_of_copy p t k)
      → IsInitialising (body_of laid seen p tables store origins choices t noted) (edge_of_copy p t l) → ⊥)
      → Has laid seen p tables store origins choices Kinds.Order pair.place

  -- Two operands of which C99 leaves the order open: the one waits or asks for a mutex, and what the other does other
  -- tasks see, or it sees what they do.
  abbrev pub ListsWaiting : Type 0
  ListsWaiting = (w v : World) (t k l : ℕ) (op : Operation) (m : Memory) (noted : BodyOrigins) (pair : Unsequenced)
      → IsNotedOf laid seen p tables store origins choices t noted → Contains noted.operands.items pair
      → ComesTo laid p w t k op m → Waits op → ActsOpenly laid p v t l
      → AreOfBoth pair (edge_of_copy p t k) (edge_of_copy p t l)
      → Has laid seen p tables store origins choices Kinds.Order pair.place

  -- what `op=` loads is stored by its right side (C99 6.5.16p4)
  abbrev pub ListsReloaded : Type 0
  ListsReloaded = (w v : World) (t k l object offset : ℕ) (noted : BodyOrigins) (reload : Reload)
      → IsNotedOf laid seen p tables store origins choices t noted → Contains noted.reloads.items reload
      → Reaching laid p w t k object offset false → edge_of_copy p t k ≡ reload.load
      → Reaching laid p v t l object offset true → IsWithin (edge_of_copy p t l) reload.right
      → Has laid seen p tables store origins choices Kinds.Order reload.place

  -- two stores with no sequence point between (C99 6.5p2)
  abbrev pub ListsOverwritten : Type 0
  ListsOverwritten = (w v : World) (t k l object offset : ℕ) (noted : BodyOrigins) (pair : Overwrite)
      → IsNotedOf laid seen p tables store origins choices t noted → Contains noted.overwrites.items pair
      → Reaching laid p w t k object offset true → edge_of_copy p t k ≡ pair.store
      → Reaching laid p v t l object offset true → edge_of_copy p t l ≡ pair.earlier
      → Has laid seen p tables store origins choices Kinds.Order pair.place

  -- a cell of what is declared `const` is stored through a pointer (C99 6.7.3p5)
  abbrev pub ListsConstants : Type 0
  ListsConstants = (w : World) (t k object offset address value : ℕ) (scalar : Scalar) (place : Place)
      (noted : BodyOrigins) → IsNotedOf laid seen p tables store origins choices t noted
      → (r : Reaching laid p w t k object offset true)
      → r.operation ≡ Op.Store address value scalar Intos.Pointed place
      → is_constant seen (inside_of seen (abstract_of_cell seen (cell_of seen object offset))) ≡ true
      → Has laid seen p tables store origins choices Kinds.Const place

  -- A cell is loaded that was not stored in the present life of its object, which has no initialiser, or of which that
  -- runs (C99 6.3.2.1p2). Of pointers nothing is promised: one that was not stored leads to no object.
  abbrev pub ListsUnset : Type 0
  ListsUnset = (w : World) (t k object offset : ℕ) (place : Place) (noted : BodyOrigins)
      → IsNotedOf laid seen p tables store origins choices t noted
      → (r : Reaching laid p w t k object offset false) → place_of r.operation ≡ Some place
      → content_of w (cell_of laid object offset) ≡ Open
      → ((life : Life) → Contains noted.lives.items life → life.object ≡ object
      → IsUninitialised (edge_of_copy p t k) life)
      → Has laid seen p tables store origins choices Kinds.Unset place

  -- the end of a function is reached without `return`, and its value is used (C99 6.9.1p12)
  abbrev pub ListsEnds : Type 0
  ListsEnds = (w : World) (t k : ℕ) (op : Operation) (m : Memory) (noted : BodyOrigins) (fall : Fall)
      → IsNotedOf laid seen p tables store origins choices t noted → Contains noted.falls.items fall
      → ComesTo laid p w t k op m → edge_of_copy p t k ≡ fall.edge
      → Has laid seen p tables store origins choices Kinds.Unset fall.place

  -- a pointer to the end of an object is compared with one to the beginning of another one (C99 6.5.9p6)
  abbrev pub ListsCompared : Type 0
  ListsCompared = (w : World) (t k left right object other : ℕ) (op : Operation) (m : Memory) (noted : BodyOrigins)
      → IsNotedOf laid seen p tables store origins choices t noted → ComesTo laid p w t k op m
      → Compares op left right ⊎ Compares op right left → object ≢ other
      → (let o = object_at laid object in m.temps left ≡ APointer (Pointers.To object o.cells))
      → m.temps right ≡ APointer (Pointers.To other 0)
      → (let o = origin_of laid seen p tables store origins choices t k noted in
      Has laid seen p tables store origins choices Kinds.Member o.place)

  pub record ListsAccessChoices : Type 0 where
    pub touched : ListsTouched
    pub waiting : ListsWaiting
    pub reloaded : ListsReloaded
    pub overwritten : ListsOverwritten
    pub constants : ListsConstants
    pub unset : ListsUnset
    pub ends : ListsEnds
    pub compared : ListsCompared
