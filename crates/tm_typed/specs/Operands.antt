-- What the rules know of a typed part: the sort of its value, whether it is folded, and what becomes of it where its
-- value is taken, converted or given to an object.
use Rattle.std.specs.Prelude.{ℕ, ℤ, Bool, true, false, cond, not, ◌&&◌, ◌||◌, Option, Some, None, Result, Ok}
use Rattle.tm_trees.specs.tm_cint.declared.int_types.IntType.{IntType}
use Rattle.tm_trees.specs.tm_cint.declared.int_types.IntType.TheVariants as Ints
use Rattle.tm_trees.specs.tm_cint.Conversions.{converted_value, is_zero}
use Rattle.tm_trees.specs.tm_terms.declared.places.Place.{Place}
use Rattle.tm_trees.specs.tm_terms.declared.refusals.Refusal.{Refusal}
use Rattle.tm_typed.specs.declared.types.Qualified.{Qualified}
use Rattle.tm_typed.specs.declared.types.CType.{CType}
use Rattle.tm_typed.specs.declared.types.CType.TheVariants as Types
use Rattle.tm_typed.specs.declared.types.TypeEntry.{TypeEntry}
use Rattle.tm_typed.specs.declared.types.Scalar.{Scalar}
use Rattle.tm_typed.specs.declared.types.Scalar.TheVariants as Scalars
use Rattle.tm_typed.specs.declared.operands.Fold.{Fold}
use Rattle.tm_typed.specs.declared.operands.Fold.TheVariants as Folds
use Rattle.tm_typed.specs.declared.operands.Sort.{Sort}
use Rattle.tm_typed.specs.declared.operands.Sort.TheVariants as Sorts
use Rattle.tm_typed.specs.Types.{is_same_int}
use Rattle.tm_typed.specs.Scopes.{Scope, entry, ctype_of, is_same_type}
use Rattle.tm_typed.specs.TypedTrees.{RvalueTree, a_constant, a_folded, a_null, a_load, an_address, a_structure}
use Rattle.tm_typed.specs.TypedTrees.{a_conversion, LvalueTree, lvalue_place, Rated, OperandTree, an_lvalue, a_value}

-- ## Sorts

-- whether an expression is folded; only integers are
abbrev pub fold_of : Sort → Fold
fold_of (Sorts.Integer t f) = f
fold_of _ = Folds.Unbuilt

-- a scalar, as a condition has to be (C99 6.8.4.1)
abbrev pub is_condition : Sort → Bool
is_condition (Sorts.Integer t f) = true
is_condition (Sorts.Pointer q) = true
is_condition Sorts.Null = true
is_condition _ = false

abbrev pub is_structure : Sort → Bool
is_structure (Sorts.Structure k) = true
is_structure _ = false

abbrev pub is_integer : Sort → Bool
is_integer (Sorts.Integer t f) = true
is_integer _ = false

abbrev pub is_pointer : Sort → Bool
is_pointer (Sorts.Pointer q) = true
is_pointer Sorts.Null = true
is_pointer _ = false

abbrev pub is_folded_zero : Fold → Bool
is_folded_zero (Folds.Value z) = is_zero z
is_folded_zero _ = false

-- a null constant: an integer expression that is folded to 0, or such an expression cast to `void *` (C99 6.3.2.3)
abbrev pub is_null : Sort → Bool
is_null (Sorts.Integer t f) = is_folded_zero f
is_null Sorts.Null = true
is_null _ = false

-- a void pointer, which is left out but for `(void*)0`
abbrev pub is_void_pointer : Sort → Bool
is_void_pointer Sorts.Null = true
is_void_pointer _ = false

-- the sort of an expression of the same type that is not folded
abbrev pub unbuilt : Sort → Sort
unbuilt (Sorts.Integer t f) = Sorts.Integer t Folds.Unbuilt
unbuilt s = s

-- with the qualifiers of both
abbrev pub qualified_as : Qualified → Qualified → Qualified
qualified_as q r = record {
  number = q.number;
  constant = q.constant || r.constant;
  volatile =
      q.volatile || r.volatile;
}

-- ## Typed forms

-- a value of this sort
abbrev pub made : RvalueTree → Sort → Place → Result OperandTree Refusal
made value sort place = Ok (a_value (record { value = value; sort = sort; place = place }))

-- an integer expression: one that is folded stands as its value
abbrev pub integer_made : IntType → Fold → RvalueTree → Place → Result OperandTree Refusal
integer_made t (Folds.Value z) value place = made (a_constant t z place) (Sorts.Integer t (Folds.Value z)) place
integer_made t f value place = made value (Sorts.Integer t f) place

-- a comparison, `!`, `&&` or `||`, which gives an `int`: one that is folded keeps its form for branches
abbrev pub truth_made : Fold → RvalueTree → Place → Result OperandTree Refusal
truth_made (Folds.Value z) value place = made (a_folded z value) (Sorts.Integer Ints.Int (Folds.Value z)) place
truth_made f value place = made value (Sorts.Integer Ints.Int f) place

-- ## Conversions (C99 6.3)

-- an integer as one of another type; of the same type it stays as it is
abbrev pub converted : IntType → IntType → Rated → RvalueTree
converted from to a = cond (is_same_int from to) a.value (a_conversion from to a.value a.place)

abbrev pub fold_converted : IntType → Fold → Fold
fold_converted t (Folds.Value z) = Folds.Value (converted_value z t)
fold_converted t f = f

abbrev pub loaded : Scope → LvalueTree → Qualified → CType → Rated
-- an lvalue of scalar type is its value, which is no longer qualified (C99 6.3.2.1)
loaded scope l q (Types.Int t) =
    record { value = a_load (Scalars.Int t) q.volatile l; sort = Sorts.Integer t Folds.Unbuilt; place = lvalue_place l }
loaded scope l q (Types.Pointer target) =
    record {
      value = a_load (Scalars.Pointer (entry scope q.number).class) false l;
      sort =
          Sorts.Pointer target;
      place = lvalue_place l;
    }
-- an array is the pointer to its first element (C99 6.3.2.1), which has the array's qualifiers (C99 6.7.3)
loaded scope l q (Types.Array element n) =
    record {
      value = an_address l (lvalue_place l);
      sort = Sorts.Pointer (record q { number = element });
      place =
          lvalue_place l;
    }
-- the value of a structure is never used: its lvalue stands for it
loaded scope l q (Types.Struct k) = record { value = a_structure l; sort = Sorts.Structure k; place = lvalue_place l }
loaded scope l q Types.Void = record { value = a_structure l; sort = Sorts.Nothing; place = lvalue_place l }

-- an operand for its value (C99 6.3.2.1)
abbrev pub valued : Scope → OperandTree → Rated
valued scope (a_value v) = v
valued scope (an_lvalue l q) = loaded scope l q (ctype_of scope q.number)

-- ## Assignment, arguments, results (C99 6.5.16.1)

-- A pointer to `to` takes a pointer to the same type, whose target may gain `volatile` and not lose it, and a null
-- constant.
abbrev pub is_taken : Scope → Qualified → Sort → Bool
is_taken scope to (Sorts.Pointer q) = is_same_type scope q.number to.number && (to.volatile || not q.volatile)
is_taken scope to sort = is_null sort

-- a pointer, or a null constant as a pointer
abbrev pub as_pointer : Rated → Sort → RvalueTree
as_pointer v (Sorts.Pointer q) = v.value
as_pointer v sort = a_null v.place

abbrev pub pointer_given : Scope → Qualified → Rated → Sort → Option RvalueTree
pointer_given scope to v sort = cond (is_taken scope to sort) (Some (as_pointer v sort)) None

abbrev pub integer_given : IntType → Rated → Sort → Option RvalueTree
integer_given to v (Sorts.Integer from f) = Some (converted from to v)
integer_given to v _ = None

abbrev pub given_to : Scope → Rated → CType → Option RvalueTree
given_to scope v (Types.Int t) = integer_given t v v.sort
given_to scope v (Types.Pointer q) = pointer_given scope q v v.sort
given_to scope v _ = None

-- a value as one of a type, where an object of that type takes it: an integer by conversion, and what a pointer takes
abbrev pub given : Scope → Rated → ℕ → Option RvalueTree
given scope v n = given_to scope v (ctype_of scope n)

-- the scalar of a cell of this type
abbrev pub scalar_by : TypeEntry → CType → Option Scalar
scalar_by e (Types.Int t) = Some (Scalars.Int t)
scalar_by e (Types.Pointer q) = Some (Scalars.Pointer e.class)
scalar_by e _ = None

abbrev pub scalar_of : Scope → ℕ → Option Scalar
scalar_of scope n = scalar_by (entry scope n) (ctype_of scope n)

-- the sort of a value that is kept as one of this type: what an assignment or a call gives
abbrev pub kept_sort : CType → Sort
kept_sort (Types.Int t) = Sorts.Integer t Folds.Unbuilt
kept_sort (Types.Pointer q) = Sorts.Pointer q
kept_sort _ = Sorts.Nothing
