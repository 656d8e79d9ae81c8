-- An operation gives its temporary a value within its extent.
use Rattle.std.proofs.Common.{◌≡◌, refl, sym, subst, ℕ, ℤ, pos, Bool, true, false, List, arith}
use Rattle.std.specs.Prelude.{◌≤ℤ◌}
use Rattle.std.proofs.lemmas.Int.{ints}
use Rattle.value_heights.specs.strided_dom.Progression.{Progression, single, Has}
use Rattle.value_heights.specs.pointer_dom.Values.{Values}
use Rattle.value_heights.specs.pointer_dom.laws.Existence.{spaced_exists}
use Rattle.temporary_types.specs.tm_cint.declared.int_types.IntType.{IntType}
use Rattle.temporary_types.specs.tm_cint.declared.int_types.IntType.TheVariants as Ints
use Rattle.temporary_types.specs.tm_cint.declared.operators.BinOp.TheVariants as Bins
use Rattle.temporary_types.specs.tm_cint.IntTypes.{IsIn, lo_of, hi_of}
use Rattle.temporary_types.specs.tm_typed.declared.expressions.Unary.TheVariants as Unaries
use Rattle.temporary_types.specs.tm_typed.declared.types.Scalar.{Scalar}
use Rattle.temporary_types.specs.tm_typed.declared.types.Scalar.TheVariants as Scalars
use Rattle.temporary_types.specs.tm_laid.Layouts.{LaidTree, abstract_at}
use Rattle.temporary_types.specs.concrete_values.declared.values.Value.{Value}
use Rattle.temporary_types.specs.concrete_values.declared.values.Value.TheVariants as Constant
use Rattle.temporary_types.specs.flow_graph.declared.operations.Operation.{Operation}
use Rattle.temporary_types.specs.flow_graph.declared.operations.Operation.TheVariants as Op
use Rattle.temporary_types.specs.Sorts.{Sort, numbers, pointers, Within, IsOfSort, FitsSorts, outcome_type, types_of}
use Rattle.typed_values.specs.transfer_int.Values.{ones_of}
use Rattle.typed_values.specs.transfer_int.Operands.{AreValues}
use Rattle.typed_values.specs.Types.{IsOfType}
use Rattle.typed_values.specs.laws.TypeLaws.{same_type}
use Rattle.typed_values.specs.laws.NumbersInTypes.{operated_values, converted_values}
use Rattle.edge_actions.specs.transfer_rows.StateForms.{State, value_of, only_numbers}
use Rattle.edge_actions.specs.transfer_rows.Calculations.{calculated}
use Rattle.edge_actions.specs.Layouts.{numbers_between, open_value}
use Rattle.edge_actions.specs.Edges.{constant_value, action_of}
use Rattle.edge_actions.proofs.Ranges.{one_range}
use Rattle.temporary_extents.specs.declared.extents.Extent.{Extent}
use Rattle.temporary_extents.specs.declared.extents.Extent.TheVariants.{Pointers as AnyPointers}
use Rattle.temporary_extents.specs.Extents.{given_extent, IsWithin, AreBetween, type_extent, scalar_extent}
use Rattle.temporary_extents.specs.Extents.{value_extent}
use Rattle.state_fits.specs.Kinds.{OfTypes, InExtents, IsClosedAt, AreInSorts}
use Rattle.state_fits.specs.Typed.{SpotsAgree, NamesObjects}
use Rattle.state_fits.specs.laws.ExactTypes.{HasSort}
use Rattle.state_fits.specs.laws.Exact.{has_type}
use Rattle.state_fits.specs.laws.ActionsFit.{ActionFits}
use Rattle.state_fits.specs.laws.OperationsFit.{one_number}
use Rattle.state_fits.specs.laws.Given.{truth_in, outcome_values, equal_values, target_type, open_typed, sorted_fits}

-- ## Values between two ends

single_between : (n : ℤ) → AreBetween n n (only_numbers (single n))
single_between n = record {
  all = λ z p. let e = one_number n z p in (omega (arith, ints, e), omega (arith, ints, e));
  alone = refl;
}

range_between : (low high : ℤ) → AreBetween low high (only_numbers (numbers_between low high))
range_between low high = record {
  all = λ z p.
      let r = spaced_exists low high 1 in
      let h = r.1.sound z (subst (λ x. Has x z) (sym (one_range low high r.0 r.1)) p) in (h.from, h.to);
  alone = refl;
}

bit_between : (n : ℤ) → IsIn Ints.Bool n → AreBetween (lo_of Ints.Bool) (hi_of Ints.Bool) (only_numbers (single n))
bit_between n h = record {
  all = λ z p. let e = one_number n z p in
      (subst (λ x. lo_of Ints.Bool ≤ℤ x) (sym e) h.at_least, subst (λ x. x ≤ℤ hi_of Ints.Bool) (sym e) h.at_most);
  alone = refl;
}

-- ## Operations

module _ (laid : LaidTree) (task : ℕ) (agree : SpotsAgree laid task) (sorts : List Sort) (extents : List Extent)
    (inside : AreInSorts laid sorts extents) (s : State)
    (within_all : (t : ℕ) → InExtents laid extents t (value_of s t)) (pointers' answer : Bool) where
  abbrev Fits : Operation → Type 0
  Fits op = ActionFits laid (InExtents laid extents) s (action_of laid task pointers' answer op)

  typed : (t : ℕ) → IsOfType laid (types_of sorts t) (value_of s t)
  typed t = inside t (value_of s t) (within_all t)

  of_type : (t : IntType) (n : Progression) → AreValues t n → IsWithin laid (type_extent t) (only_numbers n)
  of_type t n h = record { all = λ z p. let i = h.all z p in (i.at_least, i.at_most); alone = refl }

  of_scalar : (scalar : Scalar) (v : Values) → IsOfType laid scalar v → IsWithin laid (scalar_extent scalar) v
  of_scalar (Scalars.Int t) v h =
      record { all = λ z p. let i = h.0.all z p in (i.at_least, i.at_most); alone = h.1 }
  of_scalar (Scalars.Pointer class) v h = h

  -- a temporary that holds pointers
  of_pointers : (to : ℕ) (own : Sort) (v : Values) → HasSort sorts to own → Within pointers own
      → IsOfType laid (types_of sorts to) v → IsWithin laid AnyPointers v
  of_pointers to (numbers t) v e w h = absurd w
  of_pointers to pointers v e w h = subst (λ z. IsOfType laid z v) (has_type laid sorts to pointers e) h

  of_constant : (to : ℕ) (own : Sort) (value : Value) → HasSort sorts to own → IsOfSort own value
      → IsOfType laid (types_of sorts to) (constant_value laid value)
      → IsWithin laid (value_extent value) (constant_value laid value)
  of_constant to own (Constant.Number n) e w h = single_between n
  of_constant to (numbers t) (Constant.Pointer p) e w h = absurd w
  of_constant to pointers (Constant.Pointer p) e w h =
      subst (λ z. IsOfType laid z (constant_value laid (Constant.Pointer p))) (has_type laid sorts to pointers e) h

  abbrev Sorted : Operation → Type 0
  Sorted op = ActionFits laid (OfTypes laid (types_of sorts)) s (action_of laid task pointers' answer op)

  pub sorted : (op : Operation) → FitsSorts laid sorts op → NamesObjects laid op → Sorted op
  sorted op h k = sorted_fits laid task agree sorts s typed pointers' answer op h k

  pub operation_within : (op : Operation) → FitsSorts laid sorts op → NamesObjects laid op → IsClosedAt laid extents op
      → Sorted op → Fits op
  unfolding ActionFits calculated given_extent
  operation_within Op.Skip h k c o = tt
  operation_within (Op.Const to value) h k c o =
      c (constant_value laid value) (of_constant to h.1.0 value h.1.1 h.1.2 o)
  operation_within (Op.Copy to from) h k c o = c (value_of s from) (within_all from)
  operation_within (Op.Un to Unaries.Negate of from place) h k c o =
      c _ (of_type of _ (operated_values Bins.Sub of (single (pos 0)) (value_of s from).numbers))
  operation_within (Op.Un to Unaries.Complement of from place) h k c o =
      c _ (of_type of _ (operated_values Bins.Sub of (single (ones_of of)) (value_of s from).numbers))
  operation_within (Op.Bin to operator of left right place) h k c o =
      c _ (of_type (outcome_type operator of) _
      (outcome_values operator of (value_of s left).numbers (value_of s right).numbers))
  operation_within (Op.BinPointers to equal left right) h k c o =
      c _ (of_type Ints.Bool _ (equal_values equal (value_of s left).pointers (value_of s right).pointers))
  operation_within (Op.Convert to was of from) h k c o =
      c _ (of_type of _ (converted_values of (value_of s from).numbers))
  operation_within (Op.Base to object) h k c o = c _ (of_pointers to h.1.0 _ h.1.1 h.1.2 o)
  operation_within (Op.Offset to from cells) h k c o = c _ (of_pointers to h.1.0 _ h.1.1 h.1.2 o)
  operation_within (Op.Index to from count cells by place) h k c o = c _ (of_pointers to h.1.0 _ h.1.1 h.1.2 o)
  operation_within (Op.Move to from cells minus by place) h k c o = c _ (of_pointers to h.1.0 _ h.1.1 h.1.2 o)
  operation_within (Op.Deref to from target path place) h k c o = c _ (of_pointers to h.1.0 _ h.1.1 h.1.2 o)
  operation_within (Op.Load to address scalar place) h k c o = λ x v among v-typed.
      let a = abstract_at laid x in
      c v (of_scalar scalar v
      (same_type laid a.scalar scalar v (target_type laid task agree scalar (value_of s address).pointers x among)
      v-typed))
  operation_within (Op.LoadAny to address scalar place) h k c o =
      c (open_value scalar) (of_scalar scalar (open_value scalar) (open_typed laid task agree to address scalar place))
  operation_within (Op.Store address value scalar into place) h k c o = λ x v among v-within.
      o x v among (inside value v v-within)
  operation_within (Op.Any to low high) h k c o = c _ (range_between low high)
  operation_within (Op.Clear object) h k c o = o
  operation_within (Op.Usable pointer place) h k c o = tt
  operation_within (Op.Assume test) h k c o = o
  operation_within (Op.Lock mutex place) h k c o = tt
  operation_within (Op.Unlock mutex place) h k c o = tt
  operation_within Op.Yield h k c o = tt
  operation_within (Op.Probe to mutex place) h k c o =
      (c _ (bit_between (pos 1) (truth_in true)), c _ (bit_between (pos 0) (truth_in false)))
