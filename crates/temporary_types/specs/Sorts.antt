-- What temporaries hold: numbers of an integer type, or pointers. An operation fits them where each temporary that it
-- uses holds what the operation works on, and the one that it gives can hold all that it gives.
use Rattle.std.specs.Prelude.{◌≡◌, ℕ, ◌<◌, true, List, slice_get, length, Option, Some, None, All}
use Rattle.tm_typed.specs.tm_cint.declared.int_types.IntType.{IntType}
use Rattle.tm_typed.specs.tm_cint.declared.int_types.IntType.TheVariants as Ints
use Rattle.tm_typed.specs.tm_cint.declared.operators.BinOp.{BinOp}
use Rattle.tm_typed.specs.tm_cint.declared.operators.BinOp.TheVariants as Bins
use Rattle.tm_typed.specs.tm_cint.IntTypes.{IsIn}
use Rattle.tm_typed.specs.tm_cint.Conversions.{represents_all}
use Rattle.tm_typed.specs.declared.types.Scalar.{Scalar}
use Rattle.tm_typed.specs.declared.types.Scalar.TheVariants as Scalars
use Rattle.concrete_values.specs.tm_laid.Layouts.{LaidTree}
use Rattle.concrete_values.specs.declared.values.Value.{Value}
use Rattle.concrete_values.specs.declared.values.Value.TheVariants.{Number, Pointer}
use Rattle.flow_graph.specs.declared.operations.Test.{Test}
use Rattle.flow_graph.specs.declared.operations.Test.TheVariants as Tested
use Rattle.flow_graph.specs.declared.operations.Into.{Into}
use Rattle.flow_graph.specs.declared.operations.Into.TheVariants as Intos
use Rattle.flow_graph.specs.declared.operations.Operation.{Operation}
use Rattle.flow_graph.specs.declared.operations.Operation.TheVariants as Op
use Rattle.flow_graph.specs.Operations.{given}
use Rattle.flow_graph.specs.Graphs.{Edges}

-- ## Sorts

-- what a temporary holds
pub data Sort : Type 0 where
  numbers : IntType → Sort
  pointers : Sort

-- what a scalar cell holds
abbrev pub sort_of_scalar : Scalar → Sort
sort_of_scalar (Scalars.Int t) = numbers t
sort_of_scalar (Scalars.Pointer class) = pointers

-- all of the one is of the other: a type of numbers has the values of each type of which it represents all
abbrev pub Within : Sort → Sort → Type 0
Within (numbers u) (numbers t) = represents_all t u ≡ true
Within pointers pointers = Unit {0}
Within _ _ = ⊥

-- a value is of a sort
abbrev pub IsOfSort : Sort → Value → Type 0
IsOfSort (numbers t) (Number z) = IsIn t z
IsOfSort pointers (Pointer p) = Unit {0}
IsOfSort _ _ = ⊥

-- ## What operations use

-- the temporary has a sort, and all that it holds is of this one
abbrev pub Holds : List Sort → ℕ → Sort → Type 0
Holds sorts temp s = (own : Sort) × (slice_get sorts temp ≡ Some own) × Within own s

-- it holds numbers of some type
abbrev pub HoldsNumbers : List Sort → ℕ → Type 0
HoldsNumbers sorts temp = (t : IntType) × Holds sorts temp (numbers t)

-- it has a sort
abbrev pub HoldsAny : List Sort → ℕ → Type 0
HoldsAny sorts temp = (s : Sort) × Holds sorts temp s

-- at the right of an operator that works in the type: the count of a shift may be of any type (C99 6.5.7)
abbrev pub HoldsRight : List Sort → BinOp → IntType → ℕ → Type 0
HoldsRight sorts Bins.Shl of right = HoldsNumbers sorts right
HoldsRight sorts Bins.Shr of right = HoldsNumbers sorts right
HoldsRight sorts operator of right = Holds sorts right (numbers of)

-- Comparisons compare numbers of their type, or pointers; a truth may be either; and labels are compared with numbers.
abbrev pub WorksTest : List Sort → Test → Type 0
WorksTest sorts (Tested.Numbers operator of left right) = Holds sorts left (numbers of) × Holds sorts right (numbers of)
WorksTest sorts (Tested.Pointers equal left right) = Holds sorts left pointers × Holds sorts right pointers
WorksTest sorts (Tested.Truth holds value) = HoldsAny sorts value
WorksTest sorts (Tested.Case holds label value) = HoldsNumbers sorts value

-- a store goes through a pointer, or into an object that there is
abbrev pub LeadsInto : LaidTree → Into → Type 0
LeadsInto laid (Intos.Object object) = object < length laid.objects
LeadsInto laid Intos.Pointed = Unit {0}

-- a mutex of the file, of which there are at most sixteen
abbrev pub IsMutex : LaidTree → ℕ → Type 0
IsMutex laid mutex = (mutex < length laid.file.mutexes) × (mutex < 16)

-- The temporaries that an operation uses hold what it works on, and the objects and mutexes that it names there are.
abbrev pub Works : LaidTree → List Sort → Operation → Type 0
Works laid sorts Op.Skip = Unit {0}
Works laid sorts (Op.Const to value) = Unit {0}
Works laid sorts (Op.Copy to from) = HoldsAny sorts from
Works laid sorts (Op.Un to operator of from place) = Holds sorts from (numbers of)
Works laid sorts (Op.Bin to operator of left right place) = Holds sorts left (numbers of)
    × HoldsRight sorts operator of right
Works laid sorts (Op.BinPointers to equal left right) = Holds sorts left pointers × Holds sorts right pointers
Works laid sorts (Op.Convert to was of from) = Holds sorts from (numbers was)
Works laid sorts (Op.Base to object) = object < length laid.objects
Works laid sorts (Op.Offset to from cells) = Holds sorts from pointers
Works laid sorts (Op.Index to from length cells by place) = Holds sorts from pointers × HoldsNumbers sorts by
Works laid sorts (Op.Move to from cells minus by place) = Holds sorts from pointers × HoldsNumbers sorts by
Works laid sorts (Op.Deref to from target path place) = Holds sorts from pointers
Works laid sorts (Op.Load to address scalar place) = Holds sorts address pointers
Works laid sorts (Op.LoadAny to address scalar place) = Holds sorts address pointers
Works laid sorts (Op.Store address value scalar into place) = Holds sorts address pointers
    × Holds sorts value (sort_of_scalar scalar) × LeadsInto laid into
Works laid sorts (Op.Any to low high) = Unit {0}
Works laid sorts (Op.Clear object) = object < length laid.objects
Works laid sorts (Op.Usable pointer place) = Holds sorts pointer pointers
Works laid sorts (Op.Assume test) = WorksTest sorts test
Works laid sorts (Op.Lock mutex place) = IsMutex laid mutex
Works laid sorts (Op.Unlock mutex place) = IsMutex laid mutex
Works laid sorts Op.Yield = Unit {0}
Works laid sorts (Op.Probe to mutex place) = IsMutex laid mutex

-- ## What operations give

-- The type of what an operator gives: a comparison gives 0 or 1 (C99 6.5.8, 6.5.9), and each type has both.
abbrev pub outcome_type : BinOp → IntType → IntType
outcome_type Bins.Lt t = Ints.Bool
outcome_type Bins.Le t = Ints.Bool
outcome_type Bins.Gt t = Ints.Bool
outcome_type Bins.Ge t = Ints.Bool
outcome_type Bins.Eq t = Ints.Bool
outcome_type Bins.Ne t = Ints.Bool
outcome_type operator t = t

-- all that an operation gives is of this sort
abbrev pub Gives : List Sort → Operation → Sort → Type 0
Gives sorts (Op.Const to value) s = IsOfSort s value
Gives sorts (Op.Copy to from) s = Holds sorts from s
Gives sorts (Op.Un to operator of from place) s = Within (numbers of) s
Gives sorts (Op.Bin to operator of left right place) s = Within (numbers (outcome_type operator of)) s
Gives sorts (Op.BinPointers to equal left right) s = Within (numbers Ints.Bool) s
Gives sorts (Op.Convert to was of from) s = Within (numbers of) s
Gives sorts (Op.Base to object) s = Within pointers s
Gives sorts (Op.Offset to from cells) s = Within pointers s
Gives sorts (Op.Index to from length cells by place) s = Within pointers s
Gives sorts (Op.Move to from cells minus by place) s = Within pointers s
Gives sorts (Op.Deref to from target path place) s = Within pointers s
Gives sorts (Op.Load to address scalar place) s = Within (sort_of_scalar scalar) s
Gives sorts (Op.LoadAny to address scalar place) s = Within (sort_of_scalar scalar) s
Gives sorts (Op.Any to low high) s = IsOfSort s (Number low) × IsOfSort s (Number high)
Gives sorts (Op.Probe to mutex place) s = Within (numbers Ints.Bool) s
Gives sorts _ s = Unit {0}

-- the temporary that is given, if one is, has a sort with all that the operation gives
abbrev pub GivesTo : List Sort → Operation → Option ℕ → Type 0
GivesTo sorts op None = Unit {0}
GivesTo sorts op (Some temp) = (s : Sort) × (slice_get sorts temp ≡ Some s) × Gives sorts op s

-- ## Graphs

-- An operation fits temporaries of these sorts.
abbrev pub FitsSorts : LaidTree → List Sort → Operation → Type 0
FitsSorts laid sorts op = Works laid sorts op × GivesTo sorts op (given op)

-- Temporaries have these sorts: each operation of the graph fits them.
abbrev pub AreSorts : LaidTree → List Sort → Edges → Type 0
AreSorts laid sorts graph = All (λ e. FitsSorts laid sorts e.op) graph

-- ## Types of temporaries

-- The type of what is of a sort: pointers of all types are alike, so that the first class stands for all.
abbrev pub type_of_sort : Sort → Scalar
type_of_sort (numbers t) = Scalars.Int t
type_of_sort pointers = Scalars.Pointer 0

-- that of a temporary without a sort, which nothing uses, is `int`
abbrev pub type_of_some : Option Sort → Scalar
type_of_some None = Scalars.Int Ints.Int
type_of_some (Some s) = type_of_sort s

-- the types of temporaries with these sorts
abbrev pub types_of : List Sort → ℕ → Scalar
types_of sorts temp = type_of_some (slice_get sorts temp)
