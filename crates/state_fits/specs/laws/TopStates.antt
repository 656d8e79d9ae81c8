-- Each state that fits a place lies below its greatest state, and is at most as high.
use Rattle.std.specs.Prelude.{◌≡◌, ℕ, zero, suc, ◌-◌, ◌^◌, ◌<◌, ◌≤◌, true, false, ℤ, pos, neg_ℤ, ◌≤ℤ◌, nat_abs, ◌-ℤ◌}
use Rattle.std.specs.Prelude.{List, [], ◌∷◌, length, Option, Some, None, refl}
use Rattle.std.proofs.Common.{sym, ap, subst, ◌∙◌, inl, inr, arith}
use Rattle.std.proofs.lemmas.Int.{ints}
use Rattle.std.proofs.lemmas.Bool.{cases_eq, false≢true}
use Rattle.std.specs.FinMap.{get, get-empty}
use Rattle.std.specs.Ordering.{nat_cmp}
use Rattle.value_heights.specs.strided_dom.Progression.{Progression, Has, IsSubset, IsSpaced}
use Rattle.value_heights.proofs.low.strided_dom.Members.{not_in_empty}
use Rattle.value_heights.proofs.low.tm_numbers.Congruences.{cong_up}
use Rattle.value_heights.specs.tm_lattice.Heights.{IsHeight}
use Rattle.value_heights.specs.tm_lattice.Tables.{IsEntry, IsTable, IsBelow}
use Rattle.value_heights.specs.tm_lattice.laws.TableLaws.{get-insert_here, get-insert_there}
use Rattle.temporary_types.specs.tm_cint.declared.int_types.IntType.{IntType}
use Rattle.typed_values.proofs.low.transfer_int.Placing.{ends_of}
use Rattle.temporary_types.specs.tm_typed.declared.types.Scalar.{Scalar}
use Rattle.temporary_types.specs.tm_typed.declared.types.Scalar.TheVariants as Scalars
use Rattle.temporary_types.specs.tm_laid.Layouts.{LaidTree, object_at, abstract_at}
use Rattle.value_heights.specs.pointer_dom.OffsetSets.{OffsetSet, IsOffsetSet, HasNoOffset, IsOffsetsBelow}
use Rattle.value_heights.specs.pointer_dom.PointerSets.{Pointers, IsPointers, IsPointersBelow}
use Rattle.value_heights.specs.pointer_dom.Values.{Values, IsValues, IsValuesBelow}
use Rattle.value_heights.specs.pointer_dom.laws.Existence.{spaced_exists}
use Rattle.value_heights.specs.pointer_dom.laws.PointerLaws.{pointers_nothing}
use Rattle.edge_actions.specs.cell_env.States.{state_height}
use Rattle.edge_actions.specs.cell_env.laws.StateLaws.{state_heights}
use Rattle.edge_actions.specs.transfer_rows.StateForms.{Temp, Cell, State, IsTempForm, IsCellForm, IsStateForm}
use Rattle.edge_actions.specs.transfer_rows.StateForms.{IsTempUnder, IsCellUnder, IsStateUnder}
use Rattle.edge_actions.specs.transfer_rows.Accesses.{is_among}
use Rattle.edge_actions.proofs.low.transfer_rows.Steps.{among_cons, among_here, among_there}
use Rattle.edge_actions.proofs.low.transfer_rows.TableChanges.{inserted_is}
use Rattle.edge_actions.specs.interfere_set.laws.Joins.{none_is}
use Rattle.edge_actions.specs.Layouts.{numbers_between}
use Rattle.edge_actions.proofs.Ranges.{one_range}
use Rattle.value_heights.specs.Heights.{value_height}
use Rattle.value_heights.specs.laws.ValueHeights.{value_heights}
use Rattle.typed_values.specs.Types.{AreObjects, IsOfType}
use Rattle.state_fits.specs.Tops.{below, table_over, all_offsets, all_pointers, all_values, top_temp, top_cell}
use Rattle.state_fits.specs.Tops.{top_state}
use Rattle.state_fits.specs.Fits.{FitsTemp, FitsCell, FitsPlace}
use Rattle.state_fits.specs.Kinds.{OfTypes}
use Rattle.state_fits.specs.laws.FileSets.{in_sixteen}

-- ## Tables over keys

below_has : (n k : ℕ) → k < n → is_among (below n) k ≡ true
below_has zero k lt = absurd (omega arith)
below_has (suc n) k lt = elim (cases_eq k n) [
  | inl here ↦ among_here k n (below n) here
  | inr other ↦ among_there k n (below n) (below_has n k (omega (arith, other)))
]

module _ {V : Type 0} (f : ℕ → V) where
  get-table_over : (ks : List ℕ) (k : ℕ) → is_among ks k ≡ true → get (table_over f ks) k ≡ Some (f k)
  get-table_over [] k h = absurd (false≢true h)
  get-table_over (j ∷ ks) k h = elim (cases_eq k j) [
    | inl here ↦ get-insert_here (table_over f ks) j (f j) k here ∙ ap (λ z. Some (f z)) (sym here)
    | inr there ↦ get-insert_there (table_over f ks) j (f j) k there ∙ get-table_over ks k
        (elim (among_cons j k ks h) [ inl here ↦ absurd (there here) | inr later ↦ later ])
  ]

  -- each entry is a value
  over_is : (is_value nothing : V → Type 0) → ((k : ℕ) → is_value (f k)) → ((k : ℕ) → nothing (f k) → ⊥)
      → (ks : List ℕ) → ((k : ℕ) → is_among ks k ≡ true → is_value (f k)) → IsTable is_value nothing (table_over f ks)
  over_is is_value nothing are some [] each = λ key. subst (IsEntry is_value nothing) (sym (get-empty nat_cmp key)) tt
  over_is is_value nothing are some (k ∷ ks) each =
      inserted_is is_value nothing (table_over f ks) k (f k) (are k) (some k)
      (over_is is_value nothing are some ks (λ j h. are j))

-- ## Greatest values

between_has : (low high v : ℤ) → low ≤ℤ v → v ≤ℤ high → Has (numbers_between low high) v
between_has low high v from to =
    let r = spaced_exists low high 1 in
    subst (λ s. Has s v) (one_range low high r.0 r.1)
    (r.1.complete v (record {
      from = from;
      to = to;
      congruent =
          cong_up 1 (nat_abs (v -ℤ low)) v low (omega (arith, ints, from));
    }))

between_from : (low high v : ℤ) → Has (numbers_between low high) v → IsSpaced low high 1 v
between_from low high v h =
    let r = spaced_exists low high 1 in
    r.1.sound v (subst (λ s. Has s v) (sym (one_range low high r.0 r.1)) h)

zero_offset : (size : ℕ) → Has (numbers_between (pos 0) (pos size)) (pos 0)
zero_offset size = between_has (pos 0) (pos size) (pos 0) (omega (arith, ints)) (omega (arith, ints))

all_offsets_are : (laid : LaidTree) (object : ℕ) → IsOffsetSet (all_offsets laid object)
all_offsets_are laid object =
    let o = object_at laid object in record {
      within = λ v h. (let s = between_from (pos 0) (pos o.cells) v h in record { from = s.from; to = s.to });
      none = λ e. absurd (not_in_empty (pos 0) (subst (λ s. Has s (pos 0)) e (zero_offset o.cells)));
    }

some_offsets : (laid : LaidTree) (object : ℕ) → HasNoOffset (all_offsets laid object) → ⊥
some_offsets laid object e = let o = object_at laid object in
    not_in_empty (pos 0) (subst (λ s. Has s (pos 0)) e (zero_offset o.cells))

pub all_are : (laid : LaidTree) → IsValues (all_values laid)
all_are laid = over_is (all_offsets laid) (λ o. IsOffsetSet o) HasNoOffset (all_offsets_are laid) (some_offsets laid)
    (below (length laid.objects)) (λ k h. all_offsets_are laid k)

object_below : (laid : LaidTree) (p : Pointers) → IsPointers p → AreObjects laid p
    → (object : ℕ) (a : Option OffsetSet) → get p.objects object ≡ a
    → IsBelow IsOffsetsBelow a (get (all_pointers laid).objects object)
object_below laid p p-is are object None at = tt
object_below laid p p-is are object (Some o) at =
    let h = are object o at in
    let o-is : IsOffsetSet o = (subst (IsEntry IsOffsetSet HasNoOffset) at (p-is object)).0 in
    let c = object_at laid object in
    let whole : IsOffsetsBelow o (all_offsets laid object) = record {
      size = (let same = h.1 in omega (arith, same));
      offsets = record {
        within =
            λ v m. (let q = o-is.within v m in
            between_has (pos 0) (pos c.cells) v q.from (subst (λ z. v ≤ℤ pos z) h.1 q.to));
      };
    } in
    subst (IsBelow IsOffsetsBelow (Some o))
    (sym (get-table_over (all_offsets laid) (below (length laid.objects)) object
    (below_has (length laid.objects) object h.0))) whole

pointers_below : (laid : LaidTree) (p : Pointers) → IsPointers p → AreObjects laid p
    → IsPointersBelow p (all_pointers laid)
pointers_below laid p p-is are = record {
  null = λ h. refl;
  invalid = λ h. refl;
  objects = λ object. object_below laid p p-is are object (get p.objects object) refl;
}

numbers_below : (laid : LaidTree) (t : IntType) (s : Progression)
    → Rattle.typed_values.specs.transfer_int.Operands.AreValues t s → IsSubset s (all_values laid).numbers
numbers_below laid t s h = record {
  within = λ v p.
      let i = h.all v p in
      let e = ends_of t in
      between_has (neg_ℤ (pos (2 ^ 63))) (pos (2 ^ 64 - 1)) v (omega (arith, ints, e.0, i.at_least))
      (omega (arith, ints, e.1.1.1.0, i.at_most));
}

pub values_below : (laid : LaidTree) (scalar : Scalar) (v : Values) → IsOfType laid scalar v
    → IsValuesBelow v (all_values laid)
values_below laid (Scalars.Int t) v h = record {
  numbers = numbers_below laid t v.numbers h.0;
  pointers = pointers_nothing.below v.pointers (all_pointers laid) (subst IsPointers (sym h.1) none_is) (all_are laid)
      h.1;
}
values_below laid (Scalars.Pointer c) v h = record {
  numbers = record { within = λ k p. absurd (not_in_empty k (subst (λ s. Has s k) h.0 p)) };
  pointers = pointers_below laid v.pointers h.1 h.2;
}

-- ## Greatest states

-- states have heights
pub heights : IsHeight IsStateForm IsStateUnder (state_height value_height)
heights = state_heights (λ v. IsValues v) (λ v w. IsValuesBelow v w) value_height value_heights

module _ (laid : LaidTree) (task : ℕ) (types : ℕ → Scalar) (live : List ℕ) where
  temp_below : (t : ℕ) (a : Option Temp) → FitsTemp (OfTypes laid types) live t a
      → IsBelow IsTempUnder a (get (table_over (top_temp laid) live) t)
  temp_below t None h = tt
  temp_below t (Some e) h =
      subst (IsBelow IsTempUnder (Some e)) (sym (get-table_over (top_temp laid) live t h.0))
      (record {
        value = values_below laid (types t) e.value h.1;
        copy =
            λ x e. absurd (let k : (let n : Option ℕ = None in n ≡ Some x) = e in cc);
      })

  cell_below : (x : ℕ) (a : Option Cell) → FitsCell laid task x a
      → IsBelow IsCellUnder a (get (table_over (top_cell laid) (below (length laid.abstract_cells))) x)
  cell_below x None h = tt
  cell_below x (Some c) h =
      let a = abstract_at laid x in
      let v = values_below laid a.scalar c.value h.1.value in
      subst (IsBelow IsCellUnder (Some c))
      (sym (get-table_over (top_cell laid) (below (length laid.abstract_cells)) x
      (below_has (length laid.abstract_cells) x h.0.cell)))
      (record {
        value = v;
        pending = in_sixteen laid c.pending h.1.pending;
        fresh = λ e. absurd (let k : false ≡ true = e in cc);
        stored = λ e. absurd (let k : false ≡ true = e in cc);
      })

  pub top_is : IsStateForm (top_state laid live)
  top_is = record {
    temps = over_is (top_temp laid) IsTempForm (λ t. ⊥) (λ k. all_are laid) (λ k n. n) live (λ k h. all_are laid);
    cells = over_is (top_cell laid) IsCellForm (λ c. ⊥) (λ k. all_are laid) (λ k n. n)
        (below (length laid.abstract_cells)) (λ k h. all_are laid);
  }

  pub fits_below : (s : State) → FitsPlace laid task (OfTypes laid types) live s → IsStateUnder s (top_state laid live)
  fits_below s h = record {
    temps = λ t. temp_below t (get s.temps t) (h.temps t);
    cells = λ x. cell_below x (get s.cells x) (h.cells x);
  }

  pub fits_within : (s : State) → FitsPlace laid task (OfTypes laid types) live s
      → state_height value_height s ≤ state_height value_height (top_state laid live)
  fits_within s h = heights.climbs s (top_state laid live) h.form top_is (fits_below s h)
