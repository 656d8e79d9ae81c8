-- What an operation gives that fits sorts is of their types.
use Rattle.std.proofs.Common.{◌≡◌, refl, sym, subst, inl, inr, ℕ, ℤ, pos, Bool, true, false, List, [], ◌∷◌}
use Rattle.std.proofs.Common.{⊎_elim, arith}
use Rattle.std.specs.Prelude.{cond, Result, Ok}
use Rattle.std.specs.FinMap as map
use Rattle.std.specs.FinMap.{get-empty}
use Rattle.std.specs.Ordering.{nat_cmp}
use Rattle.std.proofs.lemmas.Int.{ints}
use Rattle.value_heights.specs.strided_dom.Progression.{Progression, single}
use Rattle.temporary_types.specs.tm_cint.declared.Class.{Class}
use Rattle.temporary_types.specs.tm_cint.declared.int_types.IntType.{IntType}
use Rattle.temporary_types.specs.tm_cint.declared.int_types.IntType.TheVariants as Ints
use Rattle.temporary_types.specs.tm_cint.declared.operators.BinOp.{BinOp}
use Rattle.temporary_types.specs.tm_cint.declared.operators.BinOp.TheVariants as Bins
use Rattle.temporary_types.specs.tm_cint.IntTypes.{IsIn}
use Rattle.temporary_types.specs.tm_cint.Conversions.{truth}
use Rattle.temporary_types.specs.tm_terms.declared.places.Place.{Place}
use Rattle.temporary_types.specs.tm_typed.declared.expressions.Unary.TheVariants as Unaries
use Rattle.temporary_types.specs.tm_typed.declared.types.Scalar.{Scalar}
use Rattle.temporary_types.specs.tm_typed.declared.types.Scalar.TheVariants as Scalars
use Rattle.temporary_types.specs.tm_laid.Layouts.{LaidTree, abstract_at}
use Rattle.temporary_types.specs.concrete_values.declared.values.Value.TheVariants.{Number}
use Rattle.temporary_types.specs.flow_graph.declared.operations.Operation.{Operation}
use Rattle.temporary_types.specs.flow_graph.declared.operations.Operation.TheVariants as Op
use Rattle.typed_values.specs.transfer_int.Values.{ones_of}
use Rattle.typed_values.specs.transfer_int.Operands.{AreValues}
use Rattle.value_heights.specs.pointer_dom.PointerSets.{Pointers}
use Rattle.value_heights.specs.pointer_dom.Equality.{IsEqualityValue}
use Rattle.value_heights.specs.pointer_dom.Values.{Values}
use Rattle.typed_values.specs.operator_values.Integers.{operated, operated_is}
use Rattle.typed_values.specs.operator_values.SetsOfPointers.{equality, equality_is}
use Rattle.edge_actions.specs.transfer_rows.StateForms.{State, temp_value, value_of, only_numbers}
use Rattle.edge_actions.specs.transfer_rows.Accesses.{is_among, targets_at}
use Rattle.edge_actions.specs.transfer_rows.Calculations.{calculated}
use Rattle.edge_actions.specs.Layouts.{spots_of, open_value}
use Rattle.edge_actions.specs.Edges.{action_of}
use Rattle.typed_values.specs.Types.{IsOfType, HaveSameValues}
use Rattle.typed_values.specs.laws.TypeLaws.{none_of_type, same_type}
use Rattle.typed_values.specs.laws.NumbersInTypes.{operated_values, converted_values}
use Rattle.state_fits.specs.Typed.{SpotsAgree, NamesObjects}
use Rattle.state_fits.specs.Kinds.{OfTypes}
use Rattle.state_fits.specs.laws.ExactTypes.{FitsTypes, HasSort, IsExact}
use Rattle.state_fits.specs.laws.ActionsFit.{spot_of, ActionFits}
use Rattle.state_fits.specs.laws.OperationsFit.{operation_fits}
use Rattle.temporary_types.specs.Sorts.{Sort, numbers, sort_of_scalar, Within, FitsSorts, outcome_type}
use Rattle.temporary_types.specs.Sorts.{type_of_sort, types_of}
use Rattle.state_fits.specs.laws.Exact.{wider_type, same_self, has_type, exact_fits}

-- ## Comparisons give 0 or 1

pub truth_in : (b : Bool) → IsIn Ints.Bool (truth b)
truth_in true = record { at_least = omega (arith, ints); at_most = omega (arith, ints) }
truth_in false = record { at_least = omega (arith, ints); at_most = omega (arith, ints) }

compared_in : (v : ℤ) (b : Bool) → (let r : Result ℤ Class = Ok (truth b) in r ≡ Ok v) → IsIn Ints.Bool v
compared_in v b e = subst (λ z. IsIn Ints.Bool z) (let same : truth b ≡ v = cc in same) (truth_in b)

pub outcome_values : (op : BinOp) (t : IntType) (a b : Progression) → AreValues (outcome_type op t) (operated op t a b)
outcome_values Bins.Lt t a b = record { all = λ v p. compared_in v _ ((operated_is Bins.Lt t a b).sound v p).is }
outcome_values Bins.Le t a b = record { all = λ v p. compared_in v _ ((operated_is Bins.Le t a b).sound v p).is }
outcome_values Bins.Gt t a b = record { all = λ v p. compared_in v _ ((operated_is Bins.Gt t a b).sound v p).is }
outcome_values Bins.Ge t a b = record { all = λ v p. compared_in v _ ((operated_is Bins.Ge t a b).sound v p).is }
outcome_values Bins.Eq t a b = record { all = λ v p. compared_in v _ ((operated_is Bins.Eq t a b).sound v p).is }
outcome_values Bins.Ne t a b = record { all = λ v p. compared_in v _ ((operated_is Bins.Ne t a b).sound v p).is }
outcome_values Bins.Add t a b = operated_values Bins.Add t a b
outcome_values Bins.Sub t a b = operated_values Bins.Sub t a b
outcome_values Bins.Mul t a b = operated_values Bins.Mul t a b
outcome_values Bins.Div t a b = operated_values Bins.Div t a b
outcome_values Bins.Rem t a b = operated_values Bins.Rem t a b
outcome_values Bins.Shl t a b = operated_values Bins.Shl t a b
outcome_values Bins.Shr t a b = operated_values Bins.Shr t a b
outcome_values Bins.And t a b = operated_values Bins.And t a b
outcome_values Bins.Or t a b = operated_values Bins.Or t a b
outcome_values Bins.Xor t a b = operated_values Bins.Xor t a b

equal_in : (equal : Bool) (p q : Pointers) (v : ℤ) → IsEqualityValue equal p q v → IsIn Ints.Bool v
equal_in true p q v h = ⊎_elim (λ e. subst (λ z. IsIn Ints.Bool z) (sym e.0) (truth_in true))
    (λ e. subst (λ z. IsIn Ints.Bool z) (sym e.0) (truth_in false)) h.truth
equal_in false p q v h = ⊎_elim (λ e. subst (λ z. IsIn Ints.Bool z) (sym e.0) (truth_in true))
    (λ e. subst (λ z. IsIn Ints.Bool z) (sym e.0) (truth_in false)) h.truth

pub equal_values : (equal : Bool) (p q : Pointers) → AreValues Ints.Bool (equality equal p q)
equal_values equal p q = record { all = λ v h. equal_in equal p q v ((equality_is equal p q).sound v h) }

-- ## Cells that an access may reach

flipped : (s u : Scalar) → HaveSameValues s u → HaveSameValues u s
flipped (Scalars.Int t) (Scalars.Int u) h = sym h
flipped (Scalars.Int t) (Scalars.Pointer d) h = absurd h
flipped (Scalars.Pointer c) (Scalars.Int u) h = absurd h
flipped (Scalars.Pointer c) (Scalars.Pointer d) h = tt

module _ (laid : LaidTree) (task : ℕ) (agree : SpotsAgree laid task) where
  pub target_type : (scalar : Scalar) (p : Pointers) (x : ℕ)
      → is_among (targets_at (spots_of laid task scalar) p) x ≡ true
      → (let a = abstract_at laid x in HaveSameValues a.scalar scalar)
  target_type scalar p x h =
      let r = spot_of (spots_of laid task scalar) p x h in
      subst (λ z. (let a = abstract_at laid z in HaveSameValues a.scalar scalar)) (sym r.1.1) (agree scalar r.0 r.1.0)

  sort_typed : (scalar : Scalar) (v : Values) → IsOfType laid scalar v
      → IsOfType laid (type_of_sort (sort_of_scalar scalar)) v
  sort_typed (Scalars.Int t) v h = h
  sort_typed (Scalars.Pointer class) v h = h

  typed_sort : (scalar : Scalar) (v : Values) → IsOfType laid (type_of_sort (sort_of_scalar scalar)) v
      → IsOfType laid scalar v
  typed_sort (Scalars.Int t) v h = h
  typed_sort (Scalars.Pointer class) v h = h

  -- a state in which no temporary has a value
  abbrev bare : State
  bare = record { temps = map.empty; cells = map.empty }

  bare_typed : (scalar : Scalar) (t : ℕ) → IsOfType laid scalar (value_of bare t)
  bare_typed scalar t =
      subst (λ z. IsOfType laid scalar (temp_value z)) (sym (get-empty nat_cmp t)) (none_of_type laid scalar)

  pub open_typed : (to address : ℕ) (scalar : Scalar) → (p : Place)
      → IsOfType laid scalar (open_value scalar)
  unfolding ActionFits FitsTypes
  open_typed to address scalar p =
      operation_fits laid task agree (λ t. scalar) bare (bare_typed scalar) false false
      (Op.LoadAny to address scalar p) (any_fits to address scalar p)
    where
      any_fits : (to address : ℕ) (scalar : Scalar) (p : Place)
          → FitsTypes laid (λ t. scalar) (Op.LoadAny to address scalar p)
      any_fits to address scalar p = same_self scalar

  bool_typed : (n : ℤ) → IsIn Ints.Bool n → IsOfType laid (Scalars.Int Ints.Bool) (only_numbers (single n))
  unfolding ActionFits calculated FitsTypes
  bool_typed n h =
      operation_fits laid task agree (λ t. Scalars.Int Ints.Bool) bare (bare_typed (Scalars.Int Ints.Bool)) false false
      (Op.Const 0 (Number n)) (const_fits n h)
    where
      const_fits : (n : ℤ) → IsIn Ints.Bool n
          → FitsTypes laid (λ t. Scalars.Int Ints.Bool) (Op.Const 0 (Number n))
      const_fits n h = h

  module _ (sorts : List Sort) (s : State) (typed : (t : ℕ) → IsOfType laid (types_of sorts t) (value_of s t))
      (pointers' answer : Bool) where
    abbrev Fits : Operation → Type 0
    Fits op = ActionFits laid (OfTypes laid (types_of sorts)) s (action_of laid task pointers' answer op)

    -- what is given to a temporary whose sort has it all
    given_type : (to : ℕ) (a own : Sort) (v : Values) → HasSort sorts to own → Within a own
        → IsOfType laid (type_of_sort a) v → IsOfType laid (types_of sorts to) v
    given_type to a own v e w h =
        subst (λ z. IsOfType laid z v) (sym (has_type laid sorts to own e)) (wider_type laid a own v w h)

    own_type : (from : ℕ) (own : Sort) → HasSort sorts from own → IsOfType laid (type_of_sort own) (value_of s from)
    own_type from own e = subst (λ z. IsOfType laid z (value_of s from)) (has_type laid sorts from own e) (typed from)

    exactly : (op : Operation) → FitsSorts laid sorts op → IsExact laid sorts op
        → Fits op
    exactly op h k =
        operation_fits laid task agree (types_of sorts) s typed pointers' answer op (exact_fits laid sorts op h k)

    pub sorted_fits : (op : Operation) → FitsSorts laid sorts op → NamesObjects laid op → Fits op
    unfolding ActionFits calculated
    sorted_fits Op.Skip h k = tt
    sorted_fits (Op.Const to value) h k = exactly (Op.Const to value) h k
    sorted_fits (Op.Copy to from) h k =
        given_type to h.1.2.0 h.1.0 (value_of s from) h.1.1 h.1.2.2 (own_type from h.1.2.0 h.1.2.1)
    sorted_fits (Op.Un to Unaries.Negate of from place) h k =
        given_type to (numbers of) h.1.0 _ h.1.1 h.1.2
        (operated_values Bins.Sub of (single (pos 0)) (value_of s from).numbers, refl)
    sorted_fits (Op.Un to Unaries.Complement of from place) h k =
        given_type to (numbers of) h.1.0 _ h.1.1 h.1.2
        (operated_values Bins.Sub of (single (ones_of of)) (value_of s from).numbers, refl)
    sorted_fits (Op.Bin to operator of left right place) h k =
        given_type to (numbers (outcome_type operator of)) h.1.0 _ h.1.1 h.1.2
        (outcome_values operator of (value_of s left).numbers (value_of s right).numbers, refl)
    sorted_fits (Op.BinPointers to equal left right) h k =
        given_type to (numbers Ints.Bool) h.1.0 _ h.1.1 h.1.2
        (equal_values equal (value_of s left).pointers (value_of s right).pointers, refl)
    sorted_fits (Op.Convert to was of from) h k =
        given_type to (numbers of) h.1.0 _ h.1.1 h.1.2 (converted_values of (value_of s from).numbers, refl)
    sorted_fits (Op.Base to object) h k = exactly (Op.Base to object) h tt
    sorted_fits (Op.Offset to from cells) h k = exactly (Op.Offset to from cells) h tt
    sorted_fits (Op.Index to from count cells by place) h k = exactly (Op.Index to from count cells by place) h tt
    sorted_fits (Op.Move to from cells minus by place) h k = exactly (Op.Move to from cells minus by place) h tt
    sorted_fits (Op.Deref to from target path place) h k = exactly (Op.Deref to from target path place) h tt
    sorted_fits (Op.Load to address scalar place) h k = λ x v among v-typed.
        let a = abstract_at laid x in
        given_type to (sort_of_scalar scalar) h.1.0 v h.1.1 h.1.2
        (sort_typed scalar v
        (same_type laid a.scalar scalar v (target_type scalar (value_of s address).pointers x among) v-typed))
    sorted_fits (Op.LoadAny to address scalar place) h k =
        given_type to (sort_of_scalar scalar) h.1.0 (open_value scalar) h.1.1 h.1.2
        (sort_typed scalar (open_value scalar) (open_typed to address scalar place))
    sorted_fits (Op.Store address value scalar into place) h k = λ x v among v-typed.
        let a = abstract_at laid x in
        let own : Sort = h.0.1.0 in
        let wide : IsOfType laid (type_of_sort (sort_of_scalar scalar)) v =
        wider_type laid own (sort_of_scalar scalar) v h.0.1.2
        (subst (λ z. IsOfType laid z v) (has_type laid sorts value own h.0.1.1) v-typed) in
        same_type laid scalar a.scalar v
        (flipped a.scalar scalar (target_type scalar (value_of s address).pointers x among)) (typed_sort scalar v wide)
    sorted_fits (Op.Any to low high) h k = exactly (Op.Any to low high) h tt
    sorted_fits (Op.Clear object) h k = exactly (Op.Clear object) h tt
    sorted_fits (Op.Usable pointer place) h k = exactly (Op.Usable pointer place) h tt
    sorted_fits (Op.Assume test) h k = exactly (Op.Assume test) h tt
    sorted_fits (Op.Lock mutex place) h k = exactly (Op.Lock mutex place) h tt
    sorted_fits (Op.Unlock mutex place) h k = exactly (Op.Unlock mutex place) h tt
    sorted_fits Op.Yield h k = exactly Op.Yield h tt
    sorted_fits (Op.Probe to mutex place) h k = (
      given_type to (numbers Ints.Bool) h.1.0 _ h.1.1 h.1.2 (bool_typed (pos 1) (truth_in true)),
      given_type to (numbers Ints.Bool) h.1.0 _ h.1.1 h.1.2 (bool_typed (pos 0) (truth_in false)),
    )
