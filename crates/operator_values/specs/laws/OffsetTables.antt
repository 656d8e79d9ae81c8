-- Tables of offsets whose entries are changed one by one, without those of which nothing is left; and what is to be
-- found in a table.
use Rattle.std.specs.Prelude.{◌≡◌, ◌≢◌, ℕ, Bool, true, false, cond, List, [], ◌∷◌, Option, Some, None, T, refl, ℤ}
use Rattle.std.proofs.Common.{sym, ap, subst, ◌∙◌, inl, inr, ⊎_elim}
use Rattle.std.specs.Ordering.{nat_cmp}
use Rattle.std.proofs.lemmas.Bool.{cases_eq}
use Rattle.std.specs.FinMap.{find, is_sorted, get, retain_keys, entries, get-entries, get-retain_keys, entries_sorted}
use Rattle.std.specs.FinMap.{nat_cmp-IsAntisymmetric}
use Rattle.filters.specs.strided_dom.Progression.{Progression, empty, single, row, Has, IsExactly}
use Rattle.filters.proofs.low.strided_dom.Spans.{exactly_empty}
use Rattle.filters.specs.tm_lattice.Tables.{Table, IsTable, IsEntry, changed_table}
use Rattle.filters.specs.tm_lattice.laws.Keys.{AllAbove-rest, is_sorted-rest, find-here, find-there, find_below}
use Rattle.filters.specs.tm_lattice.laws.SelectedLaws.{changed_at, get-changed_table}
use Rattle.filters.specs.pointer_dom.Offset.{IsOffset}
use Rattle.filters.specs.pointer_dom.OffsetSets.{OffsetSet, IsOffsetSet, HasNoOffset, IsOffsetsOf, no_offset}
use Rattle.filters.specs.pointer_dom.PointerSets.{offsets_or_none}
use Rattle.operator_values.specs.laws.Listings.{Test}

-- the set has a member
abbrev pub has_member : Progression → Bool
has_member empty = false
has_member (single v) = true
has_member (row first gap more) = true

pub member_none : (s : Progression) → has_member s ≡ false → s ≡ empty
member_none empty e = refl
member_none (single v) e = cc
member_none (row first gap more) e = cc

pub member_some : (s : Progression) → has_member s ≡ true → s ≡ empty → ⊥
member_some empty e f = let g : false ≡ true = e in cc
member_some (single v) e f = cc
member_some (row first gap more) e f = cc

-- the entry, if it has an offset
abbrev pub with_offsets : Option OffsetSet → Option OffsetSet
with_offsets None = None
with_offsets (Some o) = cond (has_member o.offsets) (Some o) None

module _ (change : ℕ → OffsetSet → OffsetSet) (t : Table OffsetSet) where
  -- the table with each entry changed, without those that have no offset then
  abbrev pub changed_offsets : Table OffsetSet
  changed_offsets = retain_keys (changed_table change t)
      (λ key. has_member (offsets_or_none (get (changed_table change t) key)).offsets)

  kept : (at : Option OffsetSet) → cond (has_member (offsets_or_none at).offsets) at None ≡ with_offsets at
  kept None = refl
  kept (Some o) = refl

  pub changed_offsets_at : (key : ℕ) → get changed_offsets key ≡ with_offsets (changed_at change key (get t key))
  changed_offsets_at key =
      let test = λ (k : ℕ). has_member (offsets_or_none (get (changed_table change t) k)).offsets in
      get-retain_keys (changed_table change t) test key (λ x tied.
      ap test (sym (nat_cmp-IsAntisymmetric key x tied)))
      ∙ kept (get (changed_table change t) key) ∙ ap with_offsets (get-changed_table change t key)

-- what stands there then, and that it is a set of offsets
by_member : (size : ℕ) (P : ℤ → Type 0) (o : OffsetSet) (b : Bool) → has_member o.offsets ≡ b → o.size ≡ size
    → IsExactly P o.offsets → IsOffsetsOf size P (offsets_or_none (cond b (Some o) None))
by_member size P o true e same exact = record {
  offsets = exact;
  some = λ some. same;
  none = λ none. absurd (member_some o.offsets e none);
}
by_member size P o false e same exact = record {
  offsets = subst (λ s. IsExactly P s) (member_none o.offsets e) exact;
  some = λ some. absurd (some refl);
  none = λ none. refl;
}

pub offsets_of : (size : OffsetSet → ℕ) (P : OffsetSet → ℤ → Type 0) (change : ℕ → OffsetSet → OffsetSet)
    (t : Table OffsetSet) (key : ℕ)
    → ((o : OffsetSet) → get t key ≡ Some o → ((change key o).size ≡ size o) × IsExactly (P o) (change key o).offsets)
    → (get t key ≡ None → (v : ℤ) → P no_offset v → ⊥)
    → let o = offsets_or_none (get t key) in
    IsOffsetsOf (size o) (P o) (offsets_or_none (get (changed_offsets change t) key))
offsets_of size P change t key some none = by_entry (get t key) refl
  where
    of_entry : (at : Option OffsetSet) → get t key ≡ at → (whose : OffsetSet)
        → IsOffsetsOf (size whose) (P whose) (offsets_or_none (with_offsets (changed_at change key at)))
        → IsOffsetsOf (size whose) (P whose) (offsets_or_none (get (changed_offsets change t) key))
    of_entry at e whose h = subst (λ x. IsOffsetsOf (size whose) (P whose) (offsets_or_none x))
        (sym (changed_offsets_at change t key ∙ ap (λ x. with_offsets (changed_at change key x)) e)) h

    by_entry : (at : Option OffsetSet) → get t key ≡ at
        → IsOffsetsOf (size (offsets_or_none at)) (P (offsets_or_none at))
        (offsets_or_none (get (changed_offsets change t) key))
    by_entry None e = of_entry None e no_offset (record {
      offsets = exactly_empty (P no_offset) empty refl (none e);
      some = λ some. absurd (some refl);
      none = λ empty_is. refl;
    })
    by_entry (Some o) e = let k = some o e in
        of_entry (Some o) e o
        (by_member (size o) (P o) (change key o) (has_member (change key o).offsets) refl k.0 k.1)

pub offsets_are : (change : ℕ → OffsetSet → OffsetSet) (t : Table OffsetSet)
    → ((key : ℕ) (o : OffsetSet) → get t key ≡ Some o → (v : ℤ) → Has (change key o).offsets v
    → IsOffset (change key o).size v)
    → IsTable IsOffsetSet HasNoOffset (changed_offsets change t)
offsets_are change t within key = subst (λ at. IsEntry IsOffsetSet HasNoOffset at)
    (sym (changed_offsets_at change t key)) (by_entry (get t key) refl)
  where
    entry_is : (o : OffsetSet) (b : Bool) → has_member o.offsets ≡ b → ((v : ℤ) → Has o.offsets v → IsOffset o.size v)
        → IsEntry IsOffsetSet HasNoOffset (cond b (Some o) None)
    entry_is o true e inside = (
      record { within = inside; none = λ none. absurd (member_some o.offsets e none) },
      λ none. member_some o.offsets e none,
    )
    entry_is o false e inside = tt

    by_entry : (at : Option OffsetSet) → get t key ≡ at
        → IsEntry IsOffsetSet HasNoOffset (with_offsets (changed_at change key at))
    by_entry None e = tt
    by_entry (Some o) e = entry_is (change key o) (has_member (change key o).offsets) refl (within key o e)

-- an entry of the table with a property that can be tested
module _ {V : Type 0} (R : ℕ → V → Type 0) (test : (key : ℕ) (v : V) → Test (R key v)) where
  abbrev Found : List (ℕ × V) → Type 0
  Found es = (key : ℕ) × ((v : V) × ((find nat_cmp key es ≡ Some v) × R key v))

  same_value : (v w : V) → Some v ≡ Some w → v ≡ w
  same_value v w e = cc

  any_found : (es : List (ℕ × V)) → T (is_sorted nat_cmp es) → Test (Found es)
  any_found [] sorted = inr (λ f. (let e = f.1.1.0 in cc))
  any_found (e ∷ es) sorted = by_test (test e.0 e.1) (any_found es (is_sorted-rest e es sorted))
    where
      none_below : find nat_cmp e.0 es ≡ None
      none_below = find_below e.0 es (AllAbove-rest e es sorted)

      other_key : (key : ℕ) (v : V) → find nat_cmp key es ≡ Some v → key ≢ e.0
      other_key key v is same = let e = sym is ∙ ap (λ k. find nat_cmp k es) same ∙ none_below in cc

      by_test : Test (R e.0 e.1) → Test (Found es) → Test (Found (e ∷ es))
      by_test (inl r) rest = inl (e.0, (e.1, (find-here e.0 e es refl, r)))
      by_test (inr n) (inl f) = inl (
        f.0,
        (
          f.1.0,
          (
            find-there f.0 e es (other_key f.0 f.1.0 f.1.1.0) ∙ f.1.1.0,
            f.1.1.1,
          ),
        ),
      )
      by_test (inr n) (inr none) = inr (λ f. ⊎_elim
          (λ here. n (subst (λ k. R k e.1) here
          (subst (λ v. R f.0 v) (same_value f.1.0 e.1 (sym f.1.1.0 ∙ find-here f.0 e es here)) f.1.1.1)))
          (λ there. none (f.0, (f.1.0, (sym (find-there f.0 e es there) ∙ f.1.1.0, f.1.1.1))))
          (cases_eq f.0 e.0))

  pub any_entry : (t : Table V) → Test ((key : ℕ) × ((v : V) × ((get t key ≡ Some v) × R key v)))
  any_entry t = ⊎_elim
      (λ f. inl (f.0, (f.1.0, (get-entries t f.0 ∙ f.1.1.0, f.1.1.1))))
      (λ none. inr (λ f. none (f.0, (f.1.0, (sym (get-entries t f.0) ∙ f.1.1.0, f.1.1.1)))))
      (any_found (entries t) (entries_sorted t))
