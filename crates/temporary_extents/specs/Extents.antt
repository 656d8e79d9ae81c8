-- What temporaries may hold, as the operations that give them tell.
--
-- In `x = 5 + y` the temporary of the constant holds 5 alone, that of the load of the `int` y any `int`.
use Rattle.std.specs.Prelude.{◌≡◌, ℕ, ℤ, ◌≤ℤ◌, int_le, cond, List, [], ◌∷◌, replicate, slice_set, get_or}
use Rattle.std.specs.Prelude.{Option, Some, None}
use Rattle.tm_cint.specs.declared.int_types.IntType.{IntType}
use Rattle.tm_cint.specs.declared.int_types.IntType.TheVariants as Ints
use Rattle.tm_cint.specs.IntTypes.{lo_of, hi_of}
use Rattle.tm_typed.specs.declared.types.Scalar.{Scalar}
use Rattle.tm_typed.specs.declared.types.Scalar.TheVariants as Scalars
use Rattle.concrete_values.specs.tm_laid.Layouts.{LaidTree}
use Rattle.concrete_values.specs.declared.values.Value.{Value}
use Rattle.concrete_values.specs.declared.values.Value.TheVariants.{Number, Pointer}
use Rattle.flow_graph.specs.declared.operations.Operation.{Operation}
use Rattle.flow_graph.specs.declared.operations.Operation.TheVariants as Op
use Rattle.flow_graph.specs.declared.graphs.Edge.{Edge}
use Rattle.flow_graph.specs.Operations.{given}
use Rattle.flow_graph.specs.Graphs.{Edges}
use Rattle.strided_dom.specs.Progression.{empty, Has}
use Rattle.pointer_dom.specs.PointerSets.{IsPointers, no_pointer}
use Rattle.pointer_dom.specs.Values.{Values, no_value}
use Rattle.temporary_types.specs.Sorts.{outcome_type}
use Rattle.temporary_types.specs.Temporaries.{temporaries_in}
use Rattle.typed_values.specs.Types.{IsOfType, AreObjects}
use Rattle.temporary_extents.specs.declared.extents.Extent.{Extent}
use Rattle.temporary_extents.specs.declared.extents.Extent.TheVariants.{Nothing, Between, Pointers}

-- ## Extents

abbrev pub lesser : ℤ → ℤ → ℤ
lesser a b = cond (int_le a b) a b

abbrev pub greater : ℤ → ℤ → ℤ
greater a b = cond (int_le a b) b a

-- all of both; numbers and pointers are not given to one temporary
unfoldable pub joined_extent : Extent → Extent → Extent
joined_extent Nothing e = e
joined_extent (Between a b) (Between c d) = Between (lesser a c) (greater b d)
joined_extent (Between a b) e = Between a b
joined_extent Pointers e = Pointers

abbrev pub type_extent : IntType → Extent
type_extent t = Between (lo_of t) (hi_of t)

abbrev pub scalar_extent : Scalar → Extent
scalar_extent (Scalars.Int t) = type_extent t
scalar_extent (Scalars.Pointer class) = Pointers

abbrev pub value_extent : Value → Extent
value_extent (Number n) = Between n n
value_extent (Pointer p) = Pointers

abbrev pub extent_at : List Extent → ℕ → Extent
extent_at known temp = get_or known temp Nothing

-- what an operation gives, where temporaries have these extents
unfoldable pub given_extent : List Extent → Operation → Extent
given_extent known (Op.Const to value) = value_extent value
given_extent known (Op.Copy to from) = extent_at known from
given_extent known (Op.Un to operator of from place) = type_extent of
given_extent known (Op.Bin to operator of left right place) = type_extent (outcome_type operator of)
given_extent known (Op.BinPointers to equal left right) = type_extent Ints.Bool
given_extent known (Op.Convert to was of from) = type_extent of
given_extent known (Op.Base to object) = Pointers
given_extent known (Op.Offset to from cells) = Pointers
given_extent known (Op.Index to from length cells by place) = Pointers
given_extent known (Op.Move to from cells minus by place) = Pointers
given_extent known (Op.Deref to from target path place) = Pointers
given_extent known (Op.Load to address scalar place) = scalar_extent scalar
given_extent known (Op.LoadAny to address scalar place) = scalar_extent scalar
given_extent known (Op.Any to low high) = Between low high
given_extent known (Op.Probe to mutex place) = type_extent Ints.Bool
given_extent known operation = Nothing

abbrev pub extended_at : List Extent → Operation → Option ℕ → List Extent
extended_at known op None = known
extended_at known op (Some temp) =
    slice_set known temp (joined_extent (extent_at known temp) (given_extent known op))

abbrev pub extended : List Extent → Operation → List Extent
extended known op = extended_at known op (given op)

abbrev pub extended_by : List Extent → Edges → List Extent
extended_by known [] = known
extended_by known (e ∷ graph) = extended_by (extended known e.op) graph

-- the extents of so many temporaries
abbrev pub extents_of : Edges → ℕ → List Extent
extents_of graph count = extended_by (replicate count Nothing) graph

-- the extents of the temporaries of a graph
abbrev pub extents_in : Edges → List Extent
extents_in graph = extents_of graph (temporaries_in graph)

-- ## Values

-- each number of the value is between the ends
pub record AreBetween (low high : ℤ) (v : Values) : Type 0 where
  pub all : (z : ℤ) → Has v.numbers z → (low ≤ℤ z) × (z ≤ℤ high)
  pub alone : v.pointers ≡ no_pointer

-- the value is within the extent
abbrev pub IsWithin : LaidTree → Extent → Values → Type 0
IsWithin laid Nothing v = v ≡ no_value
IsWithin laid (Between low high) v = AreBetween low high v
IsWithin laid Pointers v = (v.numbers ≡ empty) × IsPointers v.pointers × AreObjects laid v.pointers
