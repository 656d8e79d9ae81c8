-- A table's height rises where the table does, for every height of its values.
use Rattle.std.specs.Prelude.{◌≡◌, ℕ, ◌≤◌, List, [], ◌∷◌, T, refl}
use Rattle.std.proofs.Common.{sym, ap, subst, ◌∙◌, inl, inr, arith}
use Rattle.std.proofs.lemmas.Bool.{cases_lt, cases_eq}
use Rattle.std.specs.Ordering.{nat_cmp}
use Rattle.std.specs.FinMap.{find, is_sorted, get, entries, get-entries, entries_sorted}
use Rattle.tm_lattice.specs.laws.Keys.{AllAbove, AllAbove-rest, AllAbove-lower, is_sorted-rest, find-here, find-there}
use Rattle.tm_lattice.specs.laws.Keys.{find_below}
use Rattle.tm_lattice.specs.laws.EntriesBelow.{AreBelow, not_before, not_empty, both_first, both_rest, later_rest}
use Rattle.tm_lattice.specs.Tables.{Table, IsEntry, IsTable, IsBelow, IsTableBelow}
use Rattle.tm_lattice.specs.laws.TableLaws.{same_table}
use Rattle.tm_lattice.specs.Heights.{IsHeight, entries_height, table_height}

module _ {V : Type 0} (is_value : V → Type 0) (leq : V → V → Type 0) (nothing : V → Type 0) (height : V
    → ℕ) (heights : IsHeight is_value leq height) where
  abbrev Sorted : List (ℕ × V) → Type 0
  Sorted es = T (is_sorted nat_cmp es)

  abbrev Are : List (ℕ × V) → Type 0
  Are es = (key : ℕ) → IsEntry is_value nothing (find nat_cmp key es)

  are_rest : (e : ℕ × V) (es : List (ℕ × V)) → Sorted (e ∷ es) → Are (e ∷ es) → Are es
  are_rest e es sorted are key = elim (cases_eq key e.0) [
    | inl same ↦ subst (IsEntry is_value nothing) (sym (ap (λ k. find nat_cmp k es) same
        ∙ find_below e.0 es (AllAbove-rest e es sorted))) tt
    | inr differ ↦ subst (IsEntry is_value nothing) (find-there key e es differ) (are key)
  ]

  is_first : (e : ℕ × V) (es : List (ℕ × V)) → Are (e ∷ es) → is_value e.1
  is_first e es are = (subst (IsEntry is_value nothing) (find-here e.0 e es refl) (are e.0)).0

  climb : (es fs : List (ℕ × V)) → Sorted es → Sorted fs → Are es → Are fs → AreBelow leq es fs
      → entries_height height es ≤ entries_height height fs
  climb [] fs sorted sorted' are are' below = omega arith
  climb (e ∷ es) [] sorted sorted' are are' below = absurd (not_empty leq e es below)
  climb (e ∷ es) (f ∷ fs) sorted sorted' are are' below = elim (cases_lt f.0 e.0) [
    | inl later ↦
        let above : AllAbove f.0 (e ∷ es) = (
          later,
          AllAbove-lower f.0 e.0 es (omega arith)
              (AllAbove-rest e es sorted),
        ) in
        let more = climb (e ∷ es) fs sorted (is_sorted-rest f fs sorted') are (are_rest f fs sorted' are')
        (later_rest leq (e ∷ es) fs f above below) in
        omega arith
    | inr early ↦ elim (cases_eq e.0 f.0) [
      | inl same ↦
          let here = heights.climbs e.1 f.1 (is_first e es are) (is_first f fs are')
          (both_first leq e f es fs same below) in
          let more = climb es fs (is_sorted-rest e es sorted) (is_sorted-rest f fs sorted') (are_rest e es sorted are)
          (are_rest f fs sorted' are') (both_rest leq e f es fs sorted same below) in
          omega arith
      | inr differ ↦ absurd (not_before leq e f es fs sorted' below (omega arith))
    ]
  ]

  strict : (es fs : List (ℕ × V)) → Sorted es → Sorted fs → Are es → Are fs → AreBelow leq es fs
      → entries_height height fs ≤ entries_height height es → es ≡ fs
  strict [] [] sorted sorted' are are' below flat = refl
  strict [] (f ∷ fs) sorted sorted' are are' below flat = absurd (omega arith)
  strict (e ∷ es) [] sorted sorted' are are' below flat = absurd (not_empty leq e es below)
  strict (e ∷ es) (f ∷ fs) sorted sorted' are are' below flat = elim (cases_lt f.0 e.0) [
    | inl later ↦
        let above : AllAbove f.0 (e ∷ es) = (
          later,
          AllAbove-lower f.0 e.0 es (omega arith)
              (AllAbove-rest e es sorted),
        ) in
        let more = climb (e ∷ es) fs sorted (is_sorted-rest f fs sorted') are (are_rest f fs sorted' are')
        (later_rest leq (e ∷ es) fs f above below) in
        absurd (omega arith)
    | inr early ↦ elim (cases_eq e.0 f.0) [
      | inl same ↦
          let le = both_first leq e f es fs same below in
          let below' = both_rest leq e f es fs sorted same below in
          let here = heights.climbs e.1 f.1 (is_first e es are) (is_first f fs are') le in
          let more = climb es fs (is_sorted-rest e es sorted) (is_sorted-rest f fs sorted') (are_rest e es sorted are)
          (are_rest f fs sorted' are') below' in
          let value = heights.strictly e.1 f.1 (is_first e es are) (is_first f fs are') le (omega arith) in
          let rest = strict es fs (is_sorted-rest e es sorted) (is_sorted-rest f fs sorted')
          (are_rest e es sorted are) (are_rest f fs sorted' are') below' (omega arith) in
          λ i. (same i, value i) ∷ rest i
      | inr differ ↦ absurd (not_before leq e f es fs sorted' below (omega arith))
    ]
  ]

  -- tables meet the law where their values do
  pub table_heights : IsHeight (IsTable is_value nothing) (IsTableBelow leq) (table_height height)
  table_heights =
      let are : (t : Table V) → IsTable is_value nothing t
      → Are (entries t) = λ t t-is key. subst (IsEntry is_value nothing) (get-entries t key) (t-is key) in
      let below : (s t : Table V) → IsTableBelow leq s t → AreBelow leq (entries s) (entries t) = λ s t le key.
      subst (λ x. IsBelow leq x (find nat_cmp key (entries t))) (get-entries s key)
      (subst (IsBelow leq (get s key)) (get-entries t key) (le key)) in
      record {
        climbs = λ s t s-is t-is le. climb (entries s) (entries t) (entries_sorted s) (entries_sorted t) (are s s-is)
            (are t t-is) (below s t le);
        strictly = λ s t s-is t-is le flat.
            let same = strict (entries s) (entries t) (entries_sorted s) (entries_sorted t) (are s s-is) (are t t-is)
            (below s t le) flat in
            same_table s t (λ key. get-entries s key ∙ ap (λ es. find nat_cmp key es) same ∙ sym (get-entries t key));
      }
