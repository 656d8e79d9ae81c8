-- What layouts and graphs keep, of which the soundness of tables is shown.
use Rattle.std.specs.Prelude.{◌≡◌, ℕ, ◌<◌, ◌≤◌, ◌^◌, Bool, true, false, List, length, slice_get, Some}
use Rattle.program_shape.specs.tm_cint.declared.int_types.IntType.TheVariants as Ints
use Rattle.program_shape.specs.tm_typed.declared.expressions.Unary.TheVariants.{Complement}
use Rattle.program_shape.specs.tm_laid.Layouts.{LaidTree, path_at, object_at, cell_at, cell_of, abstract_at}
use Rattle.program_shape.specs.concrete_values.declared.values.Pointer.TheVariants as Pointers
use Rattle.program_shape.specs.concrete_values.declared.values.Value.{Value}
use Rattle.program_shape.specs.concrete_values.declared.values.Value.TheVariants.{Number, Pointer as APointer}
use Rattle.program_shape.specs.concrete_steps.Worlds.{is_part}
use Rattle.program_shape.specs.flow_graph.declared.graphs.Edge.{Edge}
use Rattle.program_shape.specs.flow_graph.declared.operations.Test.TheVariants as Tests
use Rattle.program_shape.specs.flow_graph.declared.operations.Operation.{Operation}
use Rattle.program_shape.specs.flow_graph.declared.operations.Operation.TheVariants as Op
use Rattle.program_shape.specs.flow_graph.Operations.{used}
use Rattle.program_shape.specs.flow_graph.Graphs.{Among, IsPlain, IsOfObject}
use Rattle.program_reports.specs.transfer_rows.Accesses.{is_among}
use Rattle.program_shape.specs.mutex_configs.Nodes.{AreNodes, all_copies}
use Rattle.program_shape.specs.mutex_configs.Sets.{IsOfSixteen}
use Rattle.program_reports.specs.temporary_types.Sorts.{Sort}
use Rattle.program_reports.specs.temporary_types.PointerMarks.{is_pointers}
use Rattle.program_reports.specs.task_equations.Bodies.{live_at}
use Rattle.program_reports.specs.task_equations.Equations.{tests_pointer}
use Rattle.program_reports.specs.program_equations.Programs.{ProgramBodies, body_at}

-- ## Layouts

-- the cell, which is of the object, stands for an abstract cell of the object
pub record IsLaidCell (laid : LaidTree) (object cell : ℕ) : Type 0 where
  pub abstract : (cell_at laid cell).abstract_cell < length laid.abstract_cells
  pub part : (abstract_at laid (cell_at laid cell).abstract_cell).object ≡ object
  pub range : IsOfObject laid object (cell_at laid cell).abstract_cell

-- The cells of objects are laid out. Each cell of an object stands for an abstract cell of the object, and no other
-- cell does; each abstract cell stands for some cell, and for one alone where it is not smashed; and they have the same
-- types.
pub record LaysCells (laid : LaidTree) : Type 0 where
  pub there : (object offset : ℕ) → offset < (object_at laid object).cells
      → (cell_of laid object offset < length laid.cells) × (is_part laid object (cell_of laid object offset) ≡ true)
  pub parts : (object cell : ℕ) → cell < length laid.cells → is_part laid object cell ≡ true
      → IsLaidCell laid object cell
  pub ranges : (object cell : ℕ) → object < length laid.objects → cell < length laid.cells
      → IsOfObject laid object (cell_at laid cell).abstract_cell → is_part laid object cell ≡ true
  pub some : (x : ℕ) → x < length laid.abstract_cells
      → (cell : ℕ) × (cell < length laid.cells) × ((cell_at laid cell).abstract_cell ≡ x)
  pub scalars : (cell : ℕ) → cell < length laid.cells
      → (abstract_at laid (cell_at laid cell).abstract_cell).scalar ≡ (cell_at laid cell).scalar
  pub one : (cell other : ℕ) → cell < length laid.cells → other < length laid.cells
      → (cell_at laid cell).abstract_cell ≡ (cell_at laid other).abstract_cell
      → (abstract_at laid (cell_at laid cell).abstract_cell).smashed ≡ false → cell ≡ other

-- ## Graphs

-- the object is on a call path of the body
pub record IsOwnObject (laid : LaidTree) (body object : ℕ) : Type 0 where
  pub path : ℕ
  pub owner : (object_at laid object).owner ≡ Some path
  pub own : (path_at laid path).body ≡ body

-- The graph of a body of a program: control goes on in one way; what is cleared is the body's own; mutexes are among
-- sixteen; and what an edge uses is live where it leaves.
pub record IsGraphOf (p : ProgramBodies) (t : ℕ) : Type 0 where
  pub plain : (let b = body_at p t in IsPlain b.edges)
  pub clears : (e : Edge) (object : ℕ) → (let b = body_at p t in Among e b.edges) → e.op ≡ Op.Clear object
      → (object < length p.laid.objects) × IsOwnObject p.laid t object
  pub mutexes : (e : Edge) → (let b = body_at p t in Among e b.edges) → IsOfSixteen e.op
  pub uses : (e : Edge) (temp : ℕ) → (let b = body_at p t in Among e b.edges) → Among temp (used e.op)
      → is_among (live_at (body_at p t) e.from) temp ≡ true
  pub nodes : (let b = body_at p t in AreNodes b.edges b.nodes)
  pub copies : (let b = body_at p t in b.copies ≡ all_copies b.nodes 0 b.edges)

-- ## Operations

-- a number, or a pointer that leads to no object
abbrev pub IsPlainValue : Value → Type 0
IsPlainValue (Number z) = Unit {0}
IsPlainValue (APointer Pointers.Null) = Unit {0}
IsPlainValue (APointer Pointers.Invalid) = Unit {0}
IsPlainValue (APointer (Pointers.To object offset)) = ⊥

-- A constant leads to no object: addresses are given by operations of their own. What is complemented is promoted. A
-- test for truth is one of pointers exactly where its temporary is told to hold pointers.
abbrev pub IsRegular : List Sort → Bool → Operation → Type 0
IsRegular sorts told (Op.Const to value) = IsPlainValue value
IsRegular sorts told (Op.Un to operator of from place) = operator ≡ Complement → of ≡ Ints.Bool → ⊥
IsRegular sorts told (Op.Assume (Tests.Truth holds value)) = (s : Sort) → slice_get sorts value ≡ Some s
    → told ≡ is_pointers s
IsRegular sorts told op = Unit {0}

-- The operations of a body are so, and numbers of 32 bits are enough for the objects.
pub record AreRegular (p : ProgramBodies) (t : ℕ) (sorts : List Sort) : Type 0 where
  pub few : length p.laid.objects ≤ 2 ^ 32
  pub each : (e : Edge) → (let b = body_at p t in Among e b.edges)
      → (let b = body_at p t in IsRegular sorts (tests_pointer b.pointers e.op) e.op)
