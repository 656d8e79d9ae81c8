-- Cells that are met with what is left of a copy.
use Rattle.std.specs.Prelude.{◌≡◌, ◌≢◌, ℕ, ◌≤◌, min, Bool, true, false, ◌&&◌, cond, eqb, IsTrue, Option, Some, None}
use Rattle.std.specs.Prelude.{refl}
use Rattle.std.proofs.Common.{sym, ap, ◌∙◌, inl, inr, arith}
use Rattle.std.proofs.lemmas.Bool.{cases_eq, eq-eqb, ne_eqb}
use Rattle.std.specs.FinMap.{get, insert}
use Rattle.strided_dom.specs.Progression.{Progression, IsSubset, IsExactly}
use Rattle.strided_dom.specs.Combinations.{IsInBoth}
use Rattle.strided_dom.proofs.Members.{not_in_empty}
use Rattle.tm_lattice.specs.Tables.{Table, IsEntry, IsBelow, changed_table}
use Rattle.tm_lattice.specs.laws.TableLaws.{same_table, get-insert_here, get-insert_there}
use Rattle.tm_lattice.specs.laws.SelectedLaws.{changed_at, get-changed_table}
use Rattle.pointer_dom.specs.OffsetSets.{OffsetSet, IsOffsetSet, HasNoOffset, IsOffsetsBelow}
use Rattle.pointer_dom.specs.PointerSets.{Pointers, IsMeet, IsMeetAt}
use Rattle.pointer_dom.specs.Values.{Values, IsValues, IsValuesBelow, IsValuesMeet}
use Rattle.edge_effects.specs.calculations.operator_values.MetValues.{met_values}
use Rattle.edge_effects.proofs.low.operator_values.OneAnswer.{one_meet}
use Rattle.edge_effects.specs.calculations.transfer_rows.StateForms.{Cell}
use Rattle.edge_effects.specs.calculations.transfer_rows.Rows.{met_where}

-- ---- a value that has only what is left is what both have

common : (s t : Progression) → IsSubset s t → IsExactly (IsInBoth s t) s
common s t le = record { sound = λ v m. (m, le.within v m); complete = λ v h. h.0 }

flag : (a b : Bool) → (IsTrue a → IsTrue b) → a ≡ (a && b)
flag true b h = sym (h refl)
flag false b h = refl

lesser : (m n : ℕ) → m ≤ n → m ≡ min m n
lesser m n h = omega arith

met_at : (a b : Option OffsetSet) → IsEntry (λ o. IsOffsetSet o) HasNoOffset a → IsBelow (λ o p. IsOffsetsBelow o p) a b → IsMeetAt a b a
met_at None b a-is le = record { offsets = record { sound = λ v m. absurd (not_in_empty v m); complete = λ v h. h.0 }; some = λ h. absurd (h refl); none = λ h. refl }
met_at (Some o) None a-is le = absurd le
met_at (Some o) (Some p) a-is le = record {
  offsets = common o.offsets p.offsets le.offsets;
  some = λ h. lesser o.size p.size le.size;
  none = a-is.0.none;
}

pub met_below : (v w : Values) → IsValues v → IsValues w → IsValuesBelow v w → v ≡ met_values v w
met_below v w v-is w-is le = one_meet v w v v-is w-is v-is record {
  numbers = common v.numbers w.numbers le.numbers;
  pointers = record {
    null = flag v.pointers.null w.pointers.null le.pointers.null;
    invalid = flag v.pointers.invalid w.pointers.invalid le.pointers.invalid;
    objects = λ object. met_at (get v.pointers.objects object) (get w.pointers.objects object) (v-is object) (le.pointers.objects object);
  };
}

-- ---- the table of the cells

module _ (cells : Table Cell) where
  unchanged_at : (f : ℕ → Cell → Cell) (key : ℕ) (a : Option Cell) → ((c : Cell) → a ≡ Some c → f key c ≡ c) → changed_at f key a ≡ a
  unchanged_at f key None h = refl
  unchanged_at f key (Some c) h = ap Some (h c refl)

  unchanged : (f : ℕ → Cell → Cell) → ((key : ℕ) (c : Cell) → get cells key ≡ Some c → f key c ≡ c) → cells ≡ changed_table f cells
  unchanged f h = sym (same_table (changed_table f cells) cells (λ key. get-changed_table f cells key ∙ unchanged_at f key (get cells key) (h key)))

  module _ (v : Values) where
    pub none_met : cells ≡ changed_table (met_where None v) cells
    none_met = unchanged (met_where None v) (λ key c at. refl)

    there_same : (y key : ℕ) (c : Cell) → key ≢ y → met_where (Some y) v key c ≡ c
    there_same y key c differ = ap (λ b. cond b (record c { value = met_values c.value v }) c) (ne_eqb key y differ)

    here_met : (y key : ℕ) (c : Cell) → key ≡ y → met_where (Some y) v key c ≡ record c { value = met_values c.value v }
    here_met y key c same = ap (λ b. cond b (record c { value = met_values c.value v }) c) (eq-eqb key y same)

    -- no entry
    pub absent_met : (y : ℕ) → get cells y ≡ None → cells ≡ changed_table (met_where (Some y) v) cells
    absent_met y none = unchanged (met_where (Some y) v) (λ key c at. elim (cases_eq key y) [
      | inl same ↦ absurd (let contradiction = sym at ∙ ap (get cells) same ∙ none in cc)
      | inr differ ↦ there_same y key c differ
    ])

    -- nothing is lost of the own value
    pub same_met : (y : ℕ) (d : Cell) → get cells y ≡ Some d → d.value ≡ met_values d.value v → cells ≡ changed_table (met_where (Some y) v) cells
    same_met y d there is = unchanged (met_where (Some y) v) (λ key c at. elim (cases_eq key y) [
      | inl same ↦ (
          let one : c ≡ d = (let both = sym at ∙ ap (get cells) same ∙ there in cc) in
          let kept : c.value ≡ met_values c.value v = ap (λ (k : Cell). k.value) one ∙ is ∙ ap (λ (k : Cell). met_values k.value v) (sym one) in
          here_met y key c same ∙ ap (λ w. record c { value = w }) (sym kept))
      | inr differ ↦ there_same y key c differ
    ])

    pub put_met : (y : ℕ) (d met : Cell) → get cells y ≡ Some d → met ≡ record d { value = met_values d.value v } → insert cells y met ≡ changed_table (met_where (Some y) v) cells
    put_met y d met there is = same_table (insert cells y met) (changed_table (met_where (Some y) v) cells) (λ key. elim (cases_eq key y) [
      | inl same ↦
          get-insert_here cells y met key same ∙ ap Some is
          ∙ sym (get-changed_table (met_where (Some y) v) cells key ∙ ap (changed_at (met_where (Some y) v) key) (ap (get cells) same ∙ there) ∙ ap Some (here_met y key d same))
      | inr differ ↦
          get-insert_there cells y met key differ ∙ unchanged_there y key (get cells key) differ
          ∙ sym (get-changed_table (met_where (Some y) v) cells key)
    ])
      where
        unchanged_there : (y key : ℕ) (a : Option Cell) → key ≢ y → a ≡ changed_at (met_where (Some y) v) key a
        unchanged_there y key None differ = refl
        unchanged_there y key (Some c) differ = ap Some (sym (there_same y key c differ))
