-- Slots of what operations write.
use Rattle.std.specs.Prelude.{ℕ, ◌+◌, ◌<◌, ◌≤◌, nat_lt, if◌then◌else◌, Option, Some, None, length}
use Rattle.tm_typed.specs.declared.types.Scalar.{Scalar}
use Rattle.tm_typed.specs.declared.types.Scalar.TheVariants as Scalars
use Rattle.tm_typed.specs.Types.{int_index}
use Rattle.tm_laid.specs.Layouts.{LaidTree, abstract_at}
use Rattle.flow_graph.specs.declared.operations.Into.{Into}
use Rattle.flow_graph.specs.declared.operations.Into.TheVariants as Intos
use Rattle.flow_graph.specs.declared.operations.Operation.{Operation}
use Rattle.flow_graph.specs.declared.operations.Operation.TheVariants as Op

-- the number of a scalar type
abbrev pub scalar_number : Scalar → ℕ
scalar_number (Scalars.Int t) = int_index t
scalar_number (Scalars.Pointer c) = 11 + c

abbrev pub object_slot : ℕ → ℕ → Option ℕ
object_slot objects o = if nat_lt o objects then Some o else None

abbrev pub into_slot : ℕ → Scalar → Into → Option ℕ
into_slot objects scalar (Intos.Object o) = object_slot objects o
into_slot objects scalar Intos.Pointed = Some (objects + scalar_number scalar)

-- the slot of what an operation writes, where there are so many objects
abbrev pub slot_of : ℕ → Operation → Option ℕ
slot_of objects (Op.Store address value scalar into place) = into_slot objects scalar into
slot_of objects (Op.Clear o) = object_slot objects o
slot_of objects _ = None

-- so many slots are enough
pub record AreSlots (laid : LaidTree) (objects count : ℕ) : Type 0 where
  pub for_objects : objects ≤ count
  pub for_cells : (cell : ℕ) → cell < length laid.abstract_cells
      → objects + scalar_number (abstract_at laid cell).scalar < count
