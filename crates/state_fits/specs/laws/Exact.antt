-- Operations that fit sorts, and types.
use Rattle.std.proofs.Common.{◌≡◌, refl, sym, ap, subst, ℕ, true, List, Option, ℤ, arith}
use Rattle.std.specs.Prelude.{◌≤ℤ◌, int_le}
use Rattle.std.proofs.lemmas.Bool.{and_parts}
use Rattle.std.proofs.lemmas.Int.{ints}
use Rattle.temporary_types.specs.tm_cint.declared.int_types.IntType.{IntType}
use Rattle.temporary_types.specs.tm_cint.declared.int_types.IntType.TheVariants as Ints
use Rattle.temporary_types.specs.tm_cint.IntTypes.{IsIn, lo_of, hi_of}
use Rattle.temporary_types.specs.tm_cint.Conversions.{represents_all}
use Rattle.temporary_types.specs.tm_cint.Operators.{result_type}
use Rattle.temporary_types.specs.tm_typed.declared.types.Scalar.{Scalar}
use Rattle.temporary_types.specs.tm_typed.declared.types.Scalar.TheVariants as Scalars
use Rattle.temporary_types.specs.tm_laid.Layouts.{LaidTree}
use Rattle.temporary_types.specs.concrete_values.declared.values.Value.{Value}
use Rattle.temporary_types.specs.concrete_values.declared.values.Value.TheVariants.{Number, Pointer}
use Rattle.temporary_types.specs.flow_graph.declared.operations.Operation.{Operation}
use Rattle.temporary_types.specs.flow_graph.declared.operations.Operation.TheVariants as Op
use Rattle.value_heights.specs.pointer_dom.Values.{Values}
use Rattle.typed_values.specs.Types.{IsOfType, HoldsNumber, HoldsPointers, HaveSameValues}
use Rattle.state_fits.specs.laws.ExactTypes.{IsConstantOf, FitsTypes, HasSort, IsExact}
use Rattle.temporary_types.specs.Sorts.{Sort, numbers, pointers, sort_of_scalar, Within, IsOfSort, Holds, FitsSorts}
use Rattle.temporary_types.specs.Sorts.{type_of_sort, type_of_some, types_of}
use Rattle.state_fits.specs.Typed.{NamesObject}

-- ## Wider types

all_in : (u t : IntType) → represents_all t u ≡ true → (z : ℤ) → IsIn u z → IsIn t z
all_in u t h z k =
    let p = and_parts (int_le (lo_of t) (lo_of u)) (int_le (hi_of u) (hi_of t)) h in
    let low = is_le (lo_of t) (lo_of u) p.0 in
    let high = is_le (hi_of u) (hi_of t) p.1 in
    record {
      at_least = through (lo_of t) (lo_of u) z low k.at_least;
      at_most = through z (hi_of u) (hi_of t) k.at_most high;
    }
  where
    is_le : (p q : ℤ) → int_le p q ≡ true → p ≤ℤ q
    is_le p q e = omega (arith, ints)

    through : (p q r : ℤ) → p ≤ℤ q → q ≤ℤ r → p ≤ℤ r
    through p q r l m = omega (arith, ints)

pub wider_type : (laid : LaidTree) (a b : Sort) (v : Values) → Within a b → IsOfType laid (type_of_sort a) v
    → IsOfType laid (type_of_sort b) v
wider_type laid (numbers u) (numbers t) v w h =
    (record { all = λ x p. all_in u t w x (h.0.all x p) }, h.1)
wider_type laid (numbers u) pointers v w h = absurd w
wider_type laid pointers (numbers t) v w h = absurd w
wider_type laid pointers pointers v w h = h

-- ## Types of temporaries

pub same_self : (s : Scalar) → HaveSameValues s s
same_self (Scalars.Int t) = refl
same_self (Scalars.Pointer class) = tt

same_sort : (s : Scalar) → HaveSameValues s (type_of_sort (sort_of_scalar s))
same_sort (Scalars.Int t) = refl
same_sort (Scalars.Pointer class) = tt

same_sort_back : (s : Scalar) → HaveSameValues (type_of_sort (sort_of_scalar s)) s
same_sort_back (Scalars.Int t) = refl
same_sort_back (Scalars.Pointer class) = tt

within_pointers : (s : Sort) → Within s pointers → HoldsPointers (type_of_sort s)
within_pointers (numbers t) w = absurd w
within_pointers pointers w = tt

pointers_within : (s : Sort) → Within pointers s → HoldsPointers (type_of_sort s)
pointers_within (numbers t) w = absurd w
pointers_within pointers w = tt

constant_is : (laid : LaidTree) (s : Sort) (v : Value) → IsOfSort s v → NamesObject laid v
    → IsConstantOf laid (type_of_sort s) v
constant_is laid (numbers t) (Number z) h k = h
constant_is laid (numbers t) (Pointer p) h k = absurd h
constant_is laid pointers (Number z) h k = absurd h
constant_is laid pointers (Pointer p) h k = (tt, k)

number_is : (s : Sort) (z : ℤ) → IsOfSort s (Number z) → HoldsNumber (type_of_sort s) z
number_is (numbers t) z h = h
number_is pointers z h = absurd h

module _ (laid : LaidTree) (sorts : List Sort) where
  -- the type of a temporary that has this sort
  pub has_type : (temp : ℕ) (s : Sort) → HasSort sorts temp s → types_of sorts temp ≡ type_of_sort s
  has_type temp s e = ap type_of_some e

  from_pointers : (temp : ℕ) → Holds sorts temp pointers → HoldsPointers (types_of sorts temp)
  from_pointers temp h =
      subst (λ z. HoldsPointers z) (sym (has_type temp h.0 h.1)) (within_pointers h.0 h.2)

  to_pointers : (temp : ℕ) (s : Sort) → HasSort sorts temp s → Within pointers s → HoldsPointers (types_of sorts temp)
  to_pointers temp s e w = subst (λ z. HoldsPointers z) (sym (has_type temp s e)) (pointers_within s w)

  pub exact_fits : (op : Operation) → FitsSorts laid sorts op → IsExact laid sorts op
      → FitsTypes laid (types_of sorts) op
  unfolding FitsTypes
  exact_fits Op.Skip h k = tt
  exact_fits (Op.Const to value) h k =
      subst (λ z. IsConstantOf laid z value) (sym (has_type to h.1.0 h.1.1)) (constant_is laid h.1.0 value h.1.2 k)
  exact_fits (Op.Copy to from) h k =
      subst (λ (z : Option Sort). HaveSameValues (types_of sorts from) (type_of_some z)) k
      (same_self (types_of sorts from))
  exact_fits (Op.Un to operator of from place) h k =
      (has_type to (numbers of) k.0, has_type from (numbers of) k.1)
  exact_fits (Op.Bin to operator of left right place) h k =
      (has_type to (numbers (result_type operator of)) k.0, has_type left (numbers of) k.1)
  exact_fits (Op.BinPointers to equal left right) h k = has_type to (numbers Ints.Int) k
  exact_fits (Op.Convert to was of from) h k = (has_type to (numbers of) k.0, has_type from (numbers was) k.1)
  exact_fits (Op.Base to object) h k = (to_pointers to h.1.0 h.1.1 h.1.2, h.0)
  exact_fits (Op.Offset to from cells) h k = (to_pointers to h.1.0 h.1.1 h.1.2, from_pointers from h.0)
  exact_fits (Op.Index to from length' cells by place) h k =
      (to_pointers to h.1.0 h.1.1 h.1.2, from_pointers from h.0.0)
  exact_fits (Op.Move to from cells minus by place) h k =
      (to_pointers to h.1.0 h.1.1 h.1.2, from_pointers from h.0.0)
  exact_fits (Op.Deref to from target path place) h k =
      (to_pointers to h.1.0 h.1.1 h.1.2, from_pointers from h.0)
  exact_fits (Op.Load to address scalar place) h k =
      subst (λ z. HaveSameValues scalar z) (sym (has_type to (sort_of_scalar scalar) k)) (same_sort scalar)
  exact_fits (Op.LoadAny to address scalar place) h k =
      subst (λ z. HaveSameValues scalar z) (sym (has_type to (sort_of_scalar scalar) k)) (same_sort scalar)
  exact_fits (Op.Store address value scalar into place) h k =
      subst (λ z. HaveSameValues z scalar) (sym (has_type value (sort_of_scalar scalar) k)) (same_sort_back scalar)
  exact_fits (Op.Any to low high) h k = (
    subst (λ z. HoldsNumber z low) (sym (has_type to h.1.0 h.1.1)) (number_is h.1.0 low h.1.2.0),
    subst (λ z. HoldsNumber z high) (sym (has_type to h.1.0 h.1.1)) (number_is h.1.0 high h.1.2.1),
  )
  exact_fits (Op.Clear object) h k = tt
  exact_fits (Op.Usable pointer place) h k = tt
  exact_fits (Op.Assume test) h k = tt
  exact_fits (Op.Lock mutex place) h k = tt
  exact_fits (Op.Unlock mutex place) h k = tt
  exact_fits Op.Yield h k = tt
  exact_fits (Op.Probe to mutex place) h k = has_type to (numbers Ints.Int) k
