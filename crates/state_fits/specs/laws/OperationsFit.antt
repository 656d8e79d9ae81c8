-- An operation that fits the types of its temporaries is an action that fits.
use Rattle.std.specs.Prelude.{◌≡◌, ℕ, ◌<◌, [], ◌∷◌, ◌&&◌, nat_le, nat_lt, ◌+◌, Bool, true, false, cond, ℤ, pos, List}
use Rattle.std.specs.Prelude.{length, Option, Some, None, refl}
use Rattle.std.proofs.Common.{sym, ap, subst, ◌∙◌, inl, inr, arith}
use Rattle.std.proofs.lemmas.Int.{ints}
use Rattle.std.proofs.lemmas.Bool.{cases_eq}
use Rattle.std.specs.Ordering.{nat_cmp}
use Rattle.std.specs.FinMap as map
use Rattle.std.specs.FinMap.{get, get-empty}
use Rattle.value_heights.specs.strided_dom.Progression.{Progression, single, Has}
use Rattle.value_heights.specs.tm_lattice.laws.TableLaws.{get-insert_here, get-insert_there}
use Rattle.temporary_types.specs.tm_cint.declared.int_types.IntType.{IntType}
use Rattle.temporary_types.specs.tm_cint.declared.int_types.IntType.TheVariants as Ints
use Rattle.temporary_types.specs.tm_cint.declared.operators.BinOp.TheVariants.{Sub}
use Rattle.temporary_types.specs.tm_cint.IntTypes.{IsIn, lo_of, hi_of}
use Rattle.temporary_types.specs.tm_cint.Operators.{result_type}
use Rattle.temporary_types.proofs.low.tm_cint.Values.{IsIn-between, truth-in, zero_in}
use Rattle.temporary_types.specs.tm_typed.declared.types.Scalar.{Scalar}
use Rattle.temporary_types.specs.tm_typed.declared.types.Scalar.TheVariants as Scalars
use Rattle.temporary_types.specs.tm_typed.declared.expressions.Unary.TheVariants as Unaries
use Rattle.temporary_types.specs.tm_laid.Layouts.{LaidTree, object_at, abstract_at, is_alive, stands_at}
use Rattle.temporary_types.specs.concrete_values.declared.values.Pointer.{Pointer}
use Rattle.temporary_types.specs.concrete_values.declared.values.Pointer.TheVariants as Pointers
use Rattle.temporary_types.specs.concrete_values.declared.values.Value.{Value}
use Rattle.temporary_types.specs.concrete_values.declared.values.Value.TheVariants as Constant
use Rattle.temporary_types.specs.flow_graph.declared.operations.Test.{Test}
use Rattle.temporary_types.specs.flow_graph.declared.operations.Test.TheVariants as Tests
use Rattle.temporary_types.specs.flow_graph.declared.operations.Operation.{Operation}
use Rattle.temporary_types.specs.flow_graph.declared.operations.Operation.TheVariants as Op
use Rattle.temporary_types.specs.flow_graph.Operations.{given}
use Rattle.typed_values.specs.transfer_int.Values.{ones_of}
use Rattle.typed_values.specs.transfer_int.Operands.{AreValues}
use Rattle.value_heights.specs.pointer_dom.OffsetSets.{OffsetSet}
use Rattle.value_heights.specs.pointer_dom.PointerSets.{Pointers as PointerSet, IsPointers, no_pointer, pointer_to}
use Rattle.value_heights.specs.pointer_dom.Values.{Values, IsValues}
use Rattle.value_heights.specs.pointer_dom.laws.Existence.{spaced_exists}
use Rattle.typed_values.specs.operator_values.SetsOfPointers as P
use Rattle.typed_values.specs.operator_values.SetsOfPointers.{offset_by_fits, indexed_fits, moved_fits}
use Rattle.typed_values.specs.operator_values.SetsOfPointers.{dereferenced_fits}
use Rattle.edge_actions.specs.transfer_rows.StateForms.{State, value_of, only_numbers, only_pointers}
use Rattle.edge_actions.specs.transfer_rows.Actions.{Spot, constant, constant_is, Action, gives, loads_any, IsAction}
use Rattle.edge_actions.specs.transfer_rows.Actions.{gives_is, loads_any_is}
use Rattle.edge_actions.specs.transfer_rows.Meanings.{IsSpotOf}
use Rattle.edge_actions.specs.transfer_rows.Accesses.{leads, is_among, targets_at}
use Rattle.edge_actions.specs.transfer_rows.Calculations.{calculated}
use Rattle.edge_actions.proofs.low.transfer_rows.Steps.{among_cons}
use Rattle.edge_actions.specs.Layouts.{numbers_between, only_invalid, open_value, spots_of}
use Rattle.edge_actions.specs.Edges.{only_null, pointer_within, pointer_value, constant_value, filter_of, cleared_value}
use Rattle.edge_actions.specs.Edges.{action_of}
use Rattle.edge_actions.proofs.ActionForms.{edge_is}
use Rattle.edge_actions.proofs.Ranges.{one_range}
use Rattle.typed_values.specs.Types.{AreObjects, IsOfType, HoldsNumber, HoldsPointers, HaveSameValues}
use Rattle.typed_values.specs.laws.TypeLaws.{typed_values, typed_objects, same_type}
use Rattle.typed_values.specs.laws.NumbersInTypes.{operated_values, converted_values, equality_values}
use Rattle.typed_values.specs.laws.ObjectsKept.{part_objects, element_objects, moved_objects, reached_objects}
use Rattle.state_fits.specs.Typed.{PointsToObject, SpotsAgree}
use Rattle.state_fits.specs.Kinds.{OfTypes}
use Rattle.state_fits.specs.laws.ExactTypes.{IsConstantOf, FitsTypes}
use Rattle.state_fits.specs.Fits.{SpotsSeen}
use Rattle.state_fits.specs.laws.ActionsFit.{target_of, LoadsSeen, FilterFits, ActionFits}

of_constant : (to : ℕ) (v : Values) → IsAction (gives to (constant v)) → IsValues v
of_constant to v (gives_is (constant_is h)) = h

of_range : (spots : List Spot) (to address : ℕ) (v : Values) → IsAction (loads_any spots to address v) → IsValues v
of_range spots to address v (loads_any_is h) = h

pub one_number : (n x : ℤ) → Has (single n) x → x ≡ n
unfolding Has
one_number n x h = h

single_values : (t : IntType) (n : ℤ) → IsIn t n → AreValues t (single n)
single_values t n h = record { all = λ x p. subst (λ z. IsIn t z) (sym (one_number n x p)) h }

between_values : (t : IntType) (low high : ℤ) → IsIn t low → IsIn t high → AreValues t (numbers_between low high)
between_values t low high low-in high-in = record {
  all = λ v p.
      let r = spaced_exists low high 1 in
      let h = r.1.sound v (subst (λ x. Has x v) (sym (one_range low high r.0 r.1)) p) in
      IsIn-between t low v high low-in high-in h.from h.to;
}

same_flipped : (s u : Scalar) → HaveSameValues s u → HaveSameValues u s
same_flipped (Scalars.Int t) (Scalars.Int u) h = sym h
same_flipped (Scalars.Int t) (Scalars.Pointer d) h = absurd h
same_flipped (Scalars.Pointer c) (Scalars.Int u) h = absurd h
same_flipped (Scalars.Pointer c) (Scalars.Pointer d) h = tt

-- ## Constants

module _ (laid : LaidTree) where
  number_typed : (scalar : Scalar) (n : ℤ) → HoldsNumber scalar n → IsOfType laid scalar (only_numbers (single n))
  number_typed (Scalars.Int t) n h = (single_values t n h, refl)
  number_typed (Scalars.Pointer c) n h = absurd h

  numbers_typed : (scalar : Scalar) (t : IntType) (n : Progression) → scalar ≡ Scalars.Int t → AreValues t n
      → IsOfType laid scalar (only_numbers n)
  numbers_typed scalar t n same h = subst (λ u. IsOfType laid u (only_numbers n)) (sym same) (h, refl)

  pointer_typed : (scalar : Scalar) (p : PointerSet) → HoldsPointers scalar → IsPointers p → AreObjects laid p
      → IsOfType laid scalar (only_pointers p)
  pointer_typed (Scalars.Int t) p h p-is p-are = absurd h
  pointer_typed (Scalars.Pointer c) p h p-is p-are = (refl, p-is, p-are)

  any_typed : (scalar : Scalar) (low high : ℤ) → HoldsNumber scalar low → HoldsNumber scalar high
      → IsOfType laid scalar (only_numbers (numbers_between low high))
  any_typed (Scalars.Int t) low high h k = (between_values t low high h k, refl)
  any_typed (Scalars.Pointer c) low high h k = absurd h

  nowhere : (p : PointerSet) → p.objects ≡ map.empty → AreObjects laid p
  nowhere p none object o at =
      absurd (let e : (let n : Option OffsetSet = None in n ≡ Some o) =
      sym (get-empty nat_cmp object) ∙ (ap (λ t. get t object) (sym none) ∙ at) in cc)

  to_object : (object offset : ℕ) → object < length laid.objects
      → AreObjects laid (pointer_to object (object_at laid object).cells offset)
  to_object object offset exists k o at = elim (cases_eq k object) [
    | inl here ↦
        let found : Some record { size = (object_at laid object).cells; offsets = single (pos offset) } ≡ Some o =
        sym (get-insert_here map.empty object
        record { size = (object_at laid object).cells; offsets = single (pos offset) } k here) ∙ at in
        let same : record { size = (object_at laid object).cells; offsets = single (pos offset) } ≡ o = cc in (
          subst (λ z. z < length laid.objects) (sym here) exists,
          sym (ap (λ (x : OffsetSet). x.size) same) ∙ ap (λ z. (object_at laid z).cells) (sym here),
        )
    | inr there ↦ nowhere no_pointer refl k o
        (sym (get-insert_there map.empty object
        record { size = (object_at laid object).cells; offsets = single (pos offset) } k there) ∙ at)
  ]

  within_object : (object offset : ℕ) → object < length laid.objects
      → AreObjects laid (pointer_within object (object_at laid object).cells offset)
  within_object object offset exists = by_test (nat_le offset (object_at laid object).cells)
    where
      by_test : (b : Bool) → AreObjects laid
          (cond b (pointer_to object (object_at laid object).cells offset) no_pointer)
      by_test true = to_object object offset exists
      by_test false = nowhere no_pointer refl

  address_objects : (p : Pointer) → PointsToObject laid p → AreObjects laid (pointer_value laid p)
  address_objects Pointers.Null h = nowhere only_null refl
  address_objects Pointers.Invalid h = nowhere only_invalid refl
  address_objects (Pointers.To object offset) h = within_object object offset h

  constant_typed : (scalar : Scalar) (v : Value) → IsValues (constant_value laid v) → IsConstantOf laid scalar v
      → IsOfType laid scalar (constant_value laid v)
  constant_typed scalar (Constant.Number n) is h = number_typed scalar n h
  constant_typed scalar (Constant.Pointer p) is h =
      pointer_typed scalar (pointer_value laid p) h.0 is (address_objects p h.1)

  open_typed : (scalar : Scalar) → IsValues (open_value scalar) → IsOfType laid scalar (open_value scalar)
  open_typed (Scalars.Int t) is =
      let zero = zero_in t in (
        between_values t (lo_of t) (hi_of t)
            (record { at_least = omega (arith, ints); at_most = omega (arith, ints, zero.at_least, zero.at_most) })
            (record { at_least = omega (arith, ints, zero.at_least, zero.at_most); at_most = omega (arith, ints) }),
        refl,
      )
  open_typed (Scalars.Pointer c) is = (refl, is, nowhere only_invalid refl)

  -- ## Accesses

  -- what is among the targets is the cell of a spot
  spot_of : (spots : List Spot) (p : PointerSet) (x : ℕ) → is_among (targets_at spots p) x ≡ true → (spot : Spot)
      × ((IsSpotOf spots spot) × (x ≡ spot.cell))
  spot_of [] p x h = absurd (Rattle.std.proofs.lemmas.Bool.false≢true h)
  spot_of (spot ∷ spots) p x h = by_lead (λ k. spot_of spots p x k) (leads p spot.object spot.offset) h
    where
      by_lead : (is_among (targets_at spots p) x ≡ true → (s : Spot) × ((IsSpotOf spots s) × (x ≡ s.cell))) → (b : Bool)
          → is_among (cond b (spot.cell ∷ targets_at spots p) (targets_at spots p)) x ≡ true → (s : Spot)
          × ((IsSpotOf (spot ∷ spots) s) × (x ≡ s.cell))
      by_lead later true k = elim (among_cons spot.cell x (targets_at spots p) k) [
        | inl here ↦ (spot, (inl refl, here))
        | inr there ↦ let r = later there in (r.0, (inr r.1.0, r.1.1))
      ]
      by_lead later false k = let r = later k in (r.0, (inr r.1.0, r.1.1))

  module _ (task : ℕ) (agree : SpotsAgree laid task) where
    target_type : (scalar : Scalar) (p : PointerSet) (x : ℕ)
        → is_among (targets_at (spots_of laid task scalar) p) x ≡ true
        → (let a = abstract_at laid x in HaveSameValues a.scalar scalar)
    target_type scalar p x h =
        let r = spot_of (spots_of laid task scalar) p x h in
        subst (λ z. (let a = abstract_at laid z in HaveSameValues a.scalar scalar)) (sym r.1.1) (agree scalar r.0 r.1.0)

    cleared_typed : (object x : ℕ) (v : Values) → IsValues v → cleared_value laid object x ≡ Some v
        → (let a = abstract_at laid x in IsOfType laid a.scalar v)
    cleared_typed object x v is at =
        by_test (nat_le (object_at laid object).first_abstract x && nat_lt x
        ((object_at laid object).first_abstract + (object_at laid object).abstract_cells)) at
      where
        by_test : (b : Bool) → cond b (Some (open_value (abstract_at laid x).scalar)) None ≡ Some v
            → (let a = abstract_at laid x in IsOfType laid a.scalar v)
        by_test true e =
            let same : open_value (abstract_at laid x).scalar ≡ v = cc in
            subst (λ w. (let a = abstract_at laid x in IsOfType laid a.scalar w)) same
            (open_typed (abstract_at laid x).scalar (subst IsValues (sym same) is))
        by_test false e = absurd (let k : (let n : Option Values = None in n ≡ Some v) = e in cc)

    -- ## Filters

    module _ (types : ℕ → Scalar) where
      side_null : IsValues (only_pointers only_null) × AreObjects laid only_null
      side_null = (null_is, nowhere only_null refl)
        where
          null_is : IsPointers only_null
          null_is = of_constant 0 (constant_value laid (Constant.Pointer Pointers.Null))
              (edge_is laid task false false (Op.Const 0 (Constant.Pointer Pointers.Null)))

      filter_fits : (pointers : Bool) (test : Test) → FilterFits laid (filter_of pointers test)
      filter_fits true (Tests.Numbers operator of left right) = tt
      filter_fits false (Tests.Numbers operator of left right) = tt
      filter_fits true (Tests.Pointers equal left right) = (tt, tt)
      filter_fits false (Tests.Pointers equal left right) = (tt, tt)
      filter_fits true (Tests.Truth holds value) = (tt, side_null)
      filter_fits false (Tests.Truth holds value) = tt
      filter_fits true (Tests.Case holds label value) = tt
      filter_fits false (Tests.Case holds label value) = tt

      -- ## Operations

      module _ (s : State) (typed : (t : ℕ) → IsOfType laid (types t) (value_of s t)) (pointers answer : Bool) where
        abbrev Fits : Operation → Type 0
        Fits op = ActionFits laid (OfTypes laid types) s (action_of laid task pointers answer op)

        is_pointers : (t : ℕ) → IsPointers (value_of s t).pointers
        is_pointers t = typed_values laid (types t) (value_of s t) (typed t)

        are_objects : (t : ℕ) → AreObjects laid (value_of s t).pointers
        are_objects t = typed_objects laid (types t) (value_of s t) (typed t)

        cleared_is : (object x : ℕ) (v : Values) → cleared_value laid object x ≡ Some v → IsValues v
        cleared_is object x v at =
            of_clear (cleared_value laid object) (edge_is laid task pointers answer (Op.Clear object)) x v at
          where
            of_clear : (cleared : ℕ → Option Values)
                → IsAction (Rattle.edge_actions.specs.transfer_rows.Actions.clears cleared) → (x : ℕ) (v : Values)
                → cleared x ≡ Some v → IsValues v
            of_clear cleared (Rattle.edge_actions.specs.transfer_rows.Actions.clears_is h) = h

        pub operation_fits : (op : Operation) → FitsTypes laid types op → Fits op
        unfolding FitsTypes ActionFits calculated
        operation_fits Op.Skip h = tt
        operation_fits (Op.Const to value) h =
            constant_typed (types to) value
            (of_constant to (constant_value laid value) (edge_is laid task pointers answer (Op.Const to value))) h
        operation_fits (Op.Copy to from) h = same_type laid (types from) (types to) (value_of s from) h (typed from)
        operation_fits (Op.Un to Unaries.Negate of from place) h = numbers_typed (types to) of
            _ h.0 (operated_values Sub of (single (pos 0)) (value_of s from).numbers)
        operation_fits (Op.Un to Unaries.Complement of from place) h = numbers_typed (types to) of
            _ h.0 (operated_values Sub of (single (ones_of of)) (value_of s from).numbers)
        operation_fits (Op.Bin to operator of left right place) h =
            numbers_typed (types to) (result_type operator of) _ h.0 (operated_values operator of
            (value_of s left).numbers (value_of s right).numbers)
        operation_fits (Op.BinPointers to equal left right) h =
            numbers_typed (types to) Ints.Int _ h
            (equality_values equal (value_of s left).pointers (value_of s right).pointers)
        operation_fits (Op.Convert to was of from) h = numbers_typed (types to) of
            _ h.0 (converted_values of (value_of s from).numbers)
        operation_fits (Op.Base to object) h =
            pointer_typed (types to) (pointer_to object (object_at laid object).cells 0) h.0
            (of_constant to (only_pointers (pointer_to object (object_at laid object).cells 0))
            (edge_is laid task pointers answer (Op.Base to object))) (to_object object 0 h.1)
        operation_fits (Op.Offset to from cells) h =
            pointer_typed (types to) (P.offset_by cells (value_of s from).pointers) h.0
            (offset_by_fits cells (value_of s from).pointers)
            (part_objects laid cells (value_of s from).pointers (are_objects from))
        operation_fits (Op.Index to from count cells by place) h =
            pointer_typed (types to) (P.indexed count cells (value_of s by).numbers (value_of s from).pointers) h.0
            (indexed_fits count cells (value_of s by).numbers (value_of s from).pointers)
            (element_objects laid count cells (value_of s by).numbers (value_of s from).pointers (are_objects from))
        operation_fits (Op.Move to from cells minus by place) h =
            pointer_typed (types to)
            (P.moved (Rattle.std.specs.Prelude.not minus) cells (value_of s by).numbers
            (value_of s from).pointers) h.0
            (moved_fits (Rattle.std.specs.Prelude.not minus) cells (value_of s by).numbers (value_of s from).pointers)
            (moved_objects laid (Rattle.std.specs.Prelude.not minus) cells (value_of s by).numbers
            (value_of s from).pointers (are_objects from))
        operation_fits (Op.Deref to from target path place) h =
            pointer_typed (types to)
            (P.dereferenced (is_alive laid path) (λ object offset. stands_at laid object offset target)
            (value_of s from).pointers) h.0
            (dereferenced_fits (is_alive laid path) (λ object offset. stands_at laid object offset target)
            (value_of s from).pointers (is_pointers from))
            (reached_objects laid (is_alive laid path) (λ object offset. stands_at laid object offset target)
            (value_of s from).pointers (is_pointers from) (are_objects from))
        operation_fits (Op.Load to address scalar place) h = λ x v among v-typed.
            let a = abstract_at laid x in
            same_type laid scalar (types to) v h
            (same_type laid a.scalar scalar v (target_type scalar (value_of s address).pointers x among) v-typed)
        operation_fits (Op.LoadAny to address scalar place) h =
            same_type laid scalar (types to) (open_value scalar) h
            (open_typed scalar (of_range (spots_of laid task scalar) to address (open_value scalar)
            (edge_is laid task pointers answer (Op.LoadAny to address scalar place))))
        operation_fits (Op.Store address value scalar into place) h = λ x v among v-typed.
            let a = abstract_at laid x in
            same_type laid scalar a.scalar v
            (same_flipped a.scalar scalar (target_type scalar (value_of s address).pointers x among))
            (same_type laid (types value) scalar v h v-typed)
        operation_fits (Op.Any to low high) h = any_typed (types to) low high h.0 h.1
        operation_fits (Op.Clear object) h = λ x v at. cleared_typed object x v (cleared_is object x v at) at
        operation_fits (Op.Usable pointer place) h = tt
        operation_fits (Op.Assume test) h = filter_fits pointers test
        operation_fits (Op.Lock mutex place) h = tt
        operation_fits (Op.Unlock mutex place) h = tt
        operation_fits Op.Yield h = tt
        operation_fits (Op.Probe to mutex place) h = (
          numbers_typed (types to) Ints.Int (single (pos 1)) h (single_values Ints.Int (pos 1) (truth-in true)),
          numbers_typed (types to) Ints.Int (single (pos 0)) h (single_values Ints.Int (pos 0) (truth-in false)),
        )

  -- an action gives the temporary that its operation gives
  pub targets_are_given : (task : ℕ) (pointers answer : Bool) (op : Operation)
      → target_of (action_of laid task pointers answer op) ≡ given op
  unfolding target_of
  targets_are_given task pointers answer Op.Skip = refl
  targets_are_given task pointers answer (Op.Const to value) = refl
  targets_are_given task pointers answer (Op.Copy to from) = refl
  targets_are_given task pointers answer (Op.Un to operator of from place) = refl
  targets_are_given task pointers answer (Op.Bin to operator of left right place) = refl
  targets_are_given task pointers answer (Op.BinPointers to equal left right) = refl
  targets_are_given task pointers answer (Op.Convert to was of from) = refl
  targets_are_given task pointers answer (Op.Base to object) = refl
  targets_are_given task pointers answer (Op.Offset to from cells) = refl
  targets_are_given task pointers answer (Op.Index to from count cells by place) = refl
  targets_are_given task pointers answer (Op.Move to from cells minus by place) = refl
  targets_are_given task pointers answer (Op.Deref to from target path place) = refl
  targets_are_given task pointers answer (Op.Load to address scalar place) = refl
  targets_are_given task pointers answer (Op.LoadAny to address scalar place) = refl
  targets_are_given task pointers answer (Op.Store address value scalar into place) = refl
  targets_are_given task pointers answer (Op.Any to low high) = refl
  targets_are_given task pointers answer (Op.Clear object) = refl
  targets_are_given task pointers answer (Op.Usable pointer place) = refl
  targets_are_given task pointers answer (Op.Assume test) = refl
  targets_are_given task pointers answer (Op.Lock mutex place) = refl
  targets_are_given task pointers answer (Op.Unlock mutex place) = refl
  targets_are_given task pointers answer Op.Yield = refl
  targets_are_given task pointers answer (Op.Probe to mutex place) = refl

  -- what an operation loads from, the body sees
  pub loads_seen : (task : ℕ) → SpotsSeen laid task → (pointers answer : Bool) (op : Operation)
      → LoadsSeen laid task (action_of laid task pointers answer op)
  loads_seen task seen pointers answer Op.Skip = tt
  loads_seen task seen pointers answer (Op.Const to value) = tt
  loads_seen task seen pointers answer (Op.Copy to from) = tt
  loads_seen task seen pointers answer (Op.Un to operator of from place) = tt
  loads_seen task seen pointers answer (Op.Bin to operator of left right place) = tt
  loads_seen task seen pointers answer (Op.BinPointers to equal left right) = tt
  loads_seen task seen pointers answer (Op.Convert to was of from) = tt
  loads_seen task seen pointers answer (Op.Base to object) = tt
  loads_seen task seen pointers answer (Op.Offset to from cells) = tt
  loads_seen task seen pointers answer (Op.Index to from count cells by place) = tt
  loads_seen task seen pointers answer (Op.Move to from cells minus by place) = tt
  loads_seen task seen pointers answer (Op.Deref to from target path place) = tt
  loads_seen task seen pointers answer (Op.Load to address scalar place) = λ spot h. seen scalar spot h
  loads_seen task seen pointers answer (Op.LoadAny to address scalar place) = tt
  loads_seen task seen pointers answer (Op.Store address value scalar into place) = tt
  loads_seen task seen pointers answer (Op.Any to low high) = tt
  loads_seen task seen pointers answer (Op.Clear object) = tt
  loads_seen task seen pointers answer (Op.Usable pointer place) = tt
  loads_seen task seen pointers answer (Op.Assume test) = tt
  loads_seen task seen pointers answer (Op.Lock mutex place) = tt
  loads_seen task seen pointers answer (Op.Unlock mutex place) = tt
  loads_seen task seen pointers answer Op.Yield = tt
  loads_seen task seen pointers answer (Op.Probe to mutex place) = tt
