-- Where runs come, whether they stop there or only pass, and what the list of assumptions promises there.
--
-- In
--     int r;
--     __task(1) void t(void) { int *p; { int v = 1; p = &v; } r = *p; }
-- runs come to the `*` at 2:61 with a pointer to v, outside of the block of v: so the list has LIFETIME there. The same
-- holds of a conversion to a signed type that does not hold the value, of a shift to the right of a negative number, and
-- of a pointer that is moved out of its array: a run that comes there finds the place in the list.
use Rattle.std.specs.Prelude.{◌≡◌, ℕ, ℤ, pos, ◌+ℤ◌, ◌*ℤ◌, ◌<ℤ◌, ◌<◌, Bool, not, List, length, Contains, Some}
use Rattle.std.specs.Prelude.{slice_get}
use Rattle.sound_tables.specs.tm_terms.declared.places.Place.{Place}
use Rattle.sound_tables.specs.tm_laid.Layouts.{LaidTree}
use Rattle.tm_cint.specs.declared.int_types.IntType.{IntType}
use Rattle.tm_cint.specs.declared.operators.BinOp.TheVariants as Ops
use Rattle.sound_tables.specs.concrete_values.declared.values.Value.TheVariants.{Number, Pointer as APointer}
use Rattle.sound_tables.specs.concrete_values.declared.values.Pointer.TheVariants as Pointers
use Rattle.sound_tables.specs.concrete_steps.Worlds.{World}
use Rattle.sound_tables.specs.concrete_steps.Occurring.{IsReached}
use Rattle.sound_tables.specs.flow_graph.declared.operations.Operation.{Operation}
use Rattle.sound_tables.specs.flow_graph.declared.operations.Operation.TheVariants as Op
use Rattle.sound_tables.specs.flow_graph.Runs.{Memory}
use Rattle.sound_tables.specs.interfere_set.Stores.{Interferences}
use Rattle.sound_tables.specs.transfer_rows.StateForms.{State}
use Rattle.sound_tables.specs.program_reports.table_covers.Solutions.{NodeTable}
use Rattle.sound_tables.specs.program_reports.pointer_dom.Advances.{directed}
use Rattle.sound_tables.specs.program_reports.Reports.{copy_in, operation_in}
use Rattle.sound_tables.specs.program_equations.Programs.{ProgramBodies, body_at}
use Rattle.sound_core.specs.Places.{MayAct}
use Rattle.sound_notes.specs.Passes.{ComesBefore}
use Rattle.part_extents.specs.declared.extents.Extent.{Extent}
use Rattle.part_extents.specs.Parts.{array_at}
use Rattle.path_origins.specs.declared.origins.Form.TheVariants as Forms
use Rattle.edge_origins.specs.declared.origins.EdgeOrigin.{EdgeOrigin}
use Rattle.edge_origins.specs.declared.origins.BodyOrigins.{BodyOrigins}
use Rattle.text_choices.specs.declared.kinds.Kind.{Kind}
use Rattle.text_choices.specs.declared.kinds.Kind.TheVariants as Kinds
use Rattle.text_choices.specs.declared.kinds.Choice.{Choice}
use Rattle.operand_orders.specs.Reached.{SolvedBody, solved_body, origin_at, IsOpen}
use Rattle.open_choices.specs.Conversions.{IsBeyond}
use Rattle.open_choices.specs.Lifetimes.{Uses}
use Rattle.open_choices.specs.Members.{Leaves}

module _ (laid : LaidTree) (p : ProgramBodies) where
  -- in a world that a run reaches, the run of a body comes with this memory before a copy of an edge with this operation
  pub record ComesTo (w : World) (t k : ℕ) (op : Operation) (m : Memory) : Type 0 where
    pub reached : IsReached laid w
    pub may : MayAct laid w t
    pub body : t < length p.bodies
    pub copy : (let b = body_at p t in k < length b.copies)
    pub operation : operation_in p t k ≡ op
    pub comes : ComesBefore laid p w t k m

-- The runs are those of the source that is laid out so; of the other layout the objects and types are read.
module _ (laid seen : LaidTree) (p : ProgramBodies) (tables : ℕ → NodeTable State) (store : Interferences)
    (origins : List BodyOrigins) (choices : List Choice) where
  abbrev pub body_of : ℕ → BodyOrigins → SolvedBody
  body_of t noted = solved_body seen p tables store t noted

  -- where the edge of a copy comes from, by what is noted of the body
  abbrev pub origin_of : ℕ → ℕ → BodyOrigins → EdgeOrigin
  origin_of t k noted = (let c = copy_in p t k in origin_at (body_of t noted) c.edge)

  -- this is noted of a body
  abbrev pub IsNotedOf : ℕ → BodyOrigins → Type 0
  IsNotedOf t noted = slice_get origins t ≡ Some noted

  -- the place is in the list
  abbrev pub Has : Kind → Place → Type 0
  Has kind place = Contains choices (record { place = place; kind = kind })

  -- a signed type does not hold what is converted to it (C99 6.3.1.3p3)
  abbrev pub ListsConversions : Type 0
  ListsConversions = (w : World) (t k to from : ℕ) (was of : IntType) (m : Memory) (n : ℤ) (noted : BodyOrigins)
      → IsNotedOf t noted → ComesTo laid p w t k (Op.Convert to was of from) m → m.temps from ≡ Number n
      → IsBeyond of n → (let o = origin_of t k noted in Has Kinds.Implementation o.place)

  -- what is shifted to the right is negative (C99 6.5.7p5)
  abbrev pub ListsShifts : Type 0
  ListsShifts = (w : World) (t k to left right : ℕ) (of : IntType) (place : Place) (m : Memory) (n : ℤ)
      (noted : BodyOrigins) → IsNotedOf t noted → ComesTo laid p w t k (Op.Bin to Ops.Shr of left right place) m
      → m.temps left ≡ Number n → n <ℤ pos 0
      → Has Kinds.Implementation place

  -- a pointer is moved out of its array, or to an end that nothing tells from what stands behind (C99 6.5.6p8)
  abbrev pub ListsMoves : Type 0
  ListsMoves = (w : World) (t k to from cells by : ℕ) (minus : Bool) (place : Place) (m : Memory)
      (target object offset : ℕ) (n : ℤ) (array : Extent) (noted : BodyOrigins) → IsNotedOf t noted
      → ComesTo laid p w t k (Op.Move to from cells minus by place) m
      → (let o = origin_of t k noted in o.form ≡ Forms.Move target)
      → m.temps from ≡ APointer (Pointers.To object offset) → m.temps by ≡ Number n
      → array_at seen object target offset ≡ Some array
      → Leaves (body_of t noted) object target array (pos offset +ℤ (n *ℤ directed (not minus) cells))
      → Has Kinds.Member place

  -- a pointer is followed, compared or tested while its object is not open (C99 6.2.4p2)
  abbrev pub ListsUses : Type 0
  ListsUses = (w : World) (t k pointer object offset : ℕ) (op : Operation) (place : Place) (m : Memory)
      (noted : BodyOrigins) → IsNotedOf t noted → Uses op pointer place → ComesTo laid p w t k op m
      → m.temps pointer ≡ APointer (Pointers.To object offset)
      → (let c = copy_in p t k in IsOpen (body_of t noted) c.edge object → ⊥) → Has Kinds.Lifetime place

  pub record ListsChoices : Type 0 where
    pub conversions : ListsConversions
    pub shifts : ListsShifts
    pub moves : ListsMoves
    pub uses : ListsUses
