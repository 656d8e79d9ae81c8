-- What stands in memory where tasks begin, and with which temporaries.
use Rattle.std.specs.Prelude.{◌≡◌, ℕ, ◌<◌, ◌≤◌, length, slice_get, Some}
use Rattle.program_shape.specs.tm_laid.declared.objects.Initial.{Initial}
use Rattle.program_shape.specs.tm_laid.declared.objects.Initial.TheVariants as Initials
use Rattle.program_shape.specs.tm_laid.Layouts.{LaidTree, object_at, cell_at}
use Rattle.program_shape.specs.concrete_values.declared.values.Pointer.TheVariants as Pointers
use Rattle.program_shape.specs.concrete_values.declared.values.Value.{Value}
use Rattle.program_shape.specs.concrete_values.declared.values.Value.TheVariants.{Number, Pointer as APointer}
use Rattle.program_shape.specs.tm_soundness.Shape.{Content, given}
use Rattle.program_shape.specs.Shape.{IsShared, IsOwned, abstract_of_cell, cleared_as}

abbrev pub initial_as : Initial → Value
initial_as (Initials.Number z) = Number z
initial_as Initials.Null = APointer Pointers.Null
initial_as (Initials.To object offset) = APointer (Pointers.To object offset)

-- an initial address lies in its object, one past its last cell included
abbrev pub LiesWithin : LaidTree → Initial → Type 0
LiesWithin laid (Initials.To object offset) = (let o = object_at laid object in offset ≤ o.cells)
LiesWithin laid i = Unit {0}

-- a cell of static storage has an initial value, which memory holds
pub record IsInitial (laid : LaidTree) (memory : ℕ → Content Value) (cell : ℕ) : Type 0 where
  pub there : cell < length laid.initial
  pub initial : Initial
  pub is : slice_get laid.initial cell ≡ Some initial
  pub within : LiesWithin laid initial
  pub stands : memory cell ≡ given (initial_as initial)

-- the cells of local objects hold what a cleared cell holds
abbrev pub AreCleared : LaidTree → (ℕ → Content Value) → Type 0
AreCleared laid memory = (cell body : ℕ) → IsOwned laid (abstract_of_cell laid cell) body
    → (let c = cell_at laid cell in memory cell ≡ cleared_as c.scalar)

-- memory before anything has run
pub record IsStartMemory (laid : LaidTree) (memory : ℕ → Content Value) : Type 0 where
  pub statics : (cell : ℕ) → IsShared laid (abstract_of_cell laid cell) → IsInitial laid memory cell
  pub locals : AreCleared laid memory
