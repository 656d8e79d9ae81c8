-- The values that temporaries may hold: those of their types, and those within their extents.
use Rattle.std.specs.Prelude.{ℕ, List, Option, Some, None}
use Rattle.value_heights.specs.pointer_dom.Values.{Values}
use Rattle.temporary_types.specs.tm_typed.declared.types.Scalar.{Scalar}
use Rattle.temporary_types.specs.tm_laid.Layouts.{LaidTree}
use Rattle.temporary_types.specs.flow_graph.declared.operations.Operation.{Operation}
use Rattle.temporary_types.specs.flow_graph.Operations.{given}
use Rattle.temporary_types.specs.Sorts.{Sort, types_of}
use Rattle.typed_values.specs.Types.{IsOfType}
use Rattle.temporary_extents.specs.declared.extents.Extent.{Extent}
use Rattle.temporary_extents.specs.Extents.{extent_at, given_extent, IsWithin}

-- values of types
abbrev pub OfTypes : LaidTree → (ℕ → Scalar) → ℕ → Values → Type 0
OfTypes laid types t v = IsOfType laid (types t) v

-- values within extents
abbrev pub InExtents : LaidTree → List Extent → ℕ → Values → Type 0
InExtents laid extents t v = IsWithin laid (extent_at extents t) v

-- what lies within the extent of a temporary is of its type
abbrev pub AreInSorts : LaidTree → List Sort → List Extent → Type 0
AreInSorts laid sorts extents = (t : ℕ) (v : Values) → InExtents laid extents t v → OfTypes laid (types_of sorts) t v

-- what the operation gives lies within the extent of the temporary that it gives
abbrev pub GivesWithin : LaidTree → List Extent → Operation → Option ℕ → Type 0
GivesWithin laid extents op None = Unit {0}
GivesWithin laid extents op (Some temp) =
    (v : Values) → IsWithin laid (given_extent extents op) v → InExtents laid extents temp v

abbrev pub IsClosedAt : LaidTree → List Extent → Operation → Type 0
IsClosedAt laid extents op = GivesWithin laid extents op (given op)
