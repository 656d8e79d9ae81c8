-- Operations whose temporaries have the very types in which they work.
use Rattle.std.specs.Prelude.{◌≡◌, ℕ, ◌<◌, List, length, slice_get, Some}
use Rattle.temporary_types.specs.tm_cint.declared.int_types.IntType.TheVariants as Ints
use Rattle.temporary_types.specs.tm_cint.Operators.{result_type}
use Rattle.temporary_types.specs.tm_typed.declared.types.Scalar.{Scalar}
use Rattle.temporary_types.specs.tm_typed.declared.types.Scalar.TheVariants.{Int}
use Rattle.temporary_types.specs.tm_laid.Layouts.{LaidTree}
use Rattle.temporary_types.specs.concrete_values.declared.values.Value.{Value}
use Rattle.temporary_types.specs.concrete_values.declared.values.Value.TheVariants as Constant
use Rattle.typed_values.specs.Types.{HoldsNumber, HoldsPointers, HaveSameValues}
use Rattle.temporary_types.specs.flow_graph.declared.operations.Operation.{Operation}
use Rattle.temporary_types.specs.flow_graph.declared.operations.Operation.TheVariants as Op
use Rattle.temporary_types.specs.Sorts.{Sort, numbers, sort_of_scalar}
use Rattle.state_fits.specs.Typed.{PointsToObject, NamesObject}

abbrev pub IsConstantOf : LaidTree → Scalar → Value → Type 0
IsConstantOf laid scalar (Constant.Number n) = HoldsNumber scalar n
IsConstantOf laid scalar (Constant.Pointer p) = HoldsPointers scalar × PointsToObject laid p

-- the operation gives its temporary values of its type, from temporaries of theirs, and names objects that exist
unfoldable pub FitsTypes : LaidTree → (ℕ → Scalar) → Operation → Type 0
FitsTypes laid types (Op.Const to value) = IsConstantOf laid (types to) value
FitsTypes laid types (Op.Copy to from) = HaveSameValues (types from) (types to)
FitsTypes laid types (Op.Un to operator of from place) = (types to ≡ Int of) × (types from ≡ Int of)
FitsTypes laid types (Op.Bin to operator of left right place) =
    (types to ≡ Int (result_type operator of)) × (types left ≡ Int of)
FitsTypes laid types (Op.BinPointers to equal left right) = types to ≡ Int Ints.Int
FitsTypes laid types (Op.Convert to was of from) = (types to ≡ Int of) × (types from ≡ Int was)
FitsTypes laid types (Op.Base to object) = HoldsPointers (types to) × (object < length laid.objects)
FitsTypes laid types (Op.Offset to from cells) = HoldsPointers (types to) × HoldsPointers (types from)
FitsTypes laid types (Op.Index to from count cells by place) = HoldsPointers (types to) × HoldsPointers (types from)
FitsTypes laid types (Op.Move to from cells minus by place) = HoldsPointers (types to) × HoldsPointers (types from)
FitsTypes laid types (Op.Deref to from target path place) = HoldsPointers (types to) × HoldsPointers (types from)
FitsTypes laid types (Op.Load to address scalar place) = HaveSameValues scalar (types to)
FitsTypes laid types (Op.LoadAny to address scalar place) = HaveSameValues scalar (types to)
FitsTypes laid types (Op.Store address value scalar into place) = HaveSameValues (types value) scalar
FitsTypes laid types (Op.Any to low high) = HoldsNumber (types to) low × HoldsNumber (types to) high
FitsTypes laid types (Op.Probe to mutex place) = types to ≡ Int Ints.Int
FitsTypes laid types op = Unit {0}

-- the temporary has this sort itself
abbrev pub HasSort : List Sort → ℕ → Sort → Type 0
HasSort sorts temp s = slice_get sorts temp ≡ Some s

-- The temporaries of an operation have the sorts in which it works themselves, and not others within or around them: a
-- conversion to a type with all values is an operation too.
abbrev pub IsExact : LaidTree → List Sort → Operation → Type 0
IsExact laid sorts (Op.Const to value) = NamesObject laid value
IsExact laid sorts (Op.Copy to from) = slice_get sorts from ≡ slice_get sorts to
IsExact laid sorts (Op.Un to operator of from place) = HasSort sorts to (numbers of) × HasSort sorts from (numbers of)
IsExact laid sorts (Op.Bin to operator of left right place) = HasSort sorts to (numbers (result_type operator of))
    × HasSort sorts left (numbers of)
IsExact laid sorts (Op.BinPointers to equal left right) = HasSort sorts to (numbers Ints.Int)
IsExact laid sorts (Op.Convert to was of from) = HasSort sorts to (numbers of) × HasSort sorts from (numbers was)
IsExact laid sorts (Op.Load to address scalar place) = HasSort sorts to (sort_of_scalar scalar)
IsExact laid sorts (Op.LoadAny to address scalar place) = HasSort sorts to (sort_of_scalar scalar)
IsExact laid sorts (Op.Store address value scalar into place) = HasSort sorts value (sort_of_scalar scalar)
IsExact laid sorts (Op.Probe to mutex place) = HasSort sorts to (numbers Ints.Int)
IsExact laid sorts _ = Unit {0}
