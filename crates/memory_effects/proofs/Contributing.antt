-- What is added to the store.
use Rattle.std.specs.Prelude.{◌≡◌, ◌≢◌, ℕ, ◌+◌, ◌<◌, ◌≤◌, Bool, true, false, ◌&&◌, not, cond, eqb, List, [], ◌∷◌, ◌++◌}
use Rattle.std.specs.Prelude.{map, Option, Some, None, refl}
use Rattle.std.proofs.Common.{sym, ap, subst, ◌∙◌, inl, inr, arith}
use Rattle.std.proofs.lemmas.Bool.{cases_eq, cases_lt, false≢true, true≢false, eq-eqb, eqb-true}
use Rattle.std.specs.Ordering.{nat_cmp}
use Rattle.std.specs.Int.{bit_at}
use Rattle.std.specs.FinMap as tables
use Rattle.std.specs.FinMap.{get, insert, keys, entries, find, len, get-empty, get-entries, len-empty}
use Rattle.tm_lattice.specs.Tables.{Table, IsPast, IsNext}
use Rattle.tm_lattice.specs.laws.Keys.{find-there}
use Rattle.tm_lattice.specs.laws.TableLaws.{same_table, get-insert_here, get-insert_there}
use Rattle.pointer_dom.specs.Values.{Values, no_value}
use Rattle.interfere_set.specs.Stores.{Nested}
use Rattle.edge_effects.specs.calculations.transfer_rows.StateForms.{Cell, is_no_value}
use Rattle.edge_effects.specs.calculations.transfer_rows.Accesses.{is_among}
use Rattle.edge_effects.specs.calculations.transfer_rows.Reports.{left_by}
use Rattle.edge_effects.specs.calculations.transfer_rows.Contributions.{cells_added, nested_under}
use Rattle.edge_effects.proofs.low.transfer_rows.Contributing.{get-added}
use Rattle.edge_effects.proofs.low.transfer_rows.Steps.{no_value_is, none_is_none, among_here, among_there}
use Rattle.edge_effects.proofs.Common.{decided, among_more_here, among_more_there}
use Rattle.memory_effects.specs.reading.Changes.{shown_value, IsWrittenAt}

-- ---- nothing

-- where each value is nothing, no cell is added
pub none_added : (value : ℕ → Values) (xs : List ℕ) → ((x : ℕ) → value x ≡ no_value) → cells_added value xs ≡ tables.empty
none_added value [] none = refl
none_added value (x ∷ xs) none = ap (λ b. cond b (cells_added value xs) (insert (cells_added value xs) x (value x))) (ap is_no_value (none x) ∙ none_is_none) ∙ none_added value xs none

pub under_none : (task set : ℕ) (cells : Table Values) → cells ≡ tables.empty → nested_under task set cells ≡ tables.empty
under_none task set cells none =
    ap (λ b. cond b tables.empty (insert tables.empty task (insert tables.empty set cells))) (eq-eqb (len cells) 0 (ap len none ∙ len-empty nat_cmp Values))

pub under_some : (task set : ℕ) (cells : Table Values) → (cells ≡ tables.empty → ⊥) → insert tables.empty task (insert tables.empty set cells) ≡ nested_under task set cells
under_some task set cells some = elim (decided (eqb (len cells) 0)) [
  | inl none ↦ absurd (some (tables.empty_of_len cells (eqb-true (len cells) 0 none)))
  | inr there ↦ sym (ap (λ b. cond b tables.empty (insert tables.empty task (insert tables.empty set cells))) there)
]

-- ---- what a store adds

module _ (shared : ℕ → Bool) (v : Values) where
  none_both : (b : Bool) → None ≡ cond (b && false) (Some v) None
  none_both true = refl
  none_both false = refl

  pub written_start : (t : Table Values) → t ≡ tables.empty → IsWrittenAt shared v [] t
  written_start t none = record { at = λ key. ap (λ u. get u key) none ∙ get-empty nat_cmp key ∙ none_both (shared key) }

  module _ (xs : List ℕ) (k : ℕ) (t : Table Values) (so : IsWrittenAt shared v xs t) where
    other : (key : ℕ) → key ≢ k → get t key ≡ cond (shared key && is_among (xs ++ k ∷ []) key) (Some v) None
    other key differ = so.at key ∙ ap (λ b. cond (shared key && b) (Some v) None) (sym (among_more_there xs k key differ))

    here : (key : ℕ) → key ≡ k → cond (shared k) (Some v) None ≡ cond (shared key && is_among (xs ++ k ∷ []) key) (Some v) None
    here key same = sym (ap (λ b. cond (shared key && b) (Some v) None) (among_more_here xs k key same) ∙ with_true (shared key) ∙ ap (λ x. cond (shared x) (Some v) None) same)
      where
        with_true : (b : Bool) → cond (b && true) (Some v) None ≡ cond b (Some v) None
        with_true true = refl
        with_true false = refl

    pub written_put : (more : Table Values) → shared k ≡ true → more ≡ insert t k v → IsWrittenAt shared v (xs ++ k ∷ []) more
    written_put more sure is = record {
      at = λ key. ap (λ u. get u key) is ∙ elim (cases_eq key k) [
        | inl same ↦ get-insert_here t k v key same ∙ sym (ap (λ b. cond b (Some v) None) sure) ∙ here key same
        | inr differ ↦ get-insert_there t k v key differ ∙ other key differ
      ];
    }

    pub written_own : shared k ≡ false → IsWrittenAt shared v (xs ++ k ∷ []) t
    written_own never = record {
      at = λ key. elim (cases_eq key k) [
        | inl same ↦ ap (get t) same ∙ so.at k ∙ ap (λ b. cond (b && is_among xs k) (Some v) None) never ∙ sym (ap (λ b. cond b (Some v) None) never) ∙ here key same
        | inr differ ↦ other key differ
      ];
    }

    pub written_twice : (w : Values) → get t k ≡ Some w → IsWrittenAt shared v (xs ++ k ∷ []) t
    written_twice w stands = record {
      at = λ key. elim (cases_eq key k) [
        | inl same ↦ ap (get t) same ∙ so.at k ∙ both (shared k) (is_among xs k) (sym (so.at k) ∙ stands) ∙ here key same
        | inr differ ↦ other key differ
      ];
    }
      where
        both : (a b : Bool) → cond (a && b) (Some v) None ≡ Some w → cond (a && b) (Some v) None ≡ cond a (Some v) None
        both true true e = refl
        both true false e = cc
        both false b e = refl

  abbrev value_at : List ℕ → ℕ → Values
  value_at xs x = cond (shared x && is_among xs x) v no_value

  pub written_all : (xs : List ℕ) (t : Table Values) → is_no_value v ≡ false → IsWrittenAt shared v xs t → t ≡ cells_added (value_at xs) xs
  written_all xs t some so = same_table t (cells_added (value_at xs) xs) (λ key. so.at key ∙ by_tests (shared key) (is_among xs key) ∙ sym (get-added (value_at xs) xs key))
    where
      by_tests : (a b : Bool) → cond (a && b) (Some v) None ≡ cond (b && not (is_no_value (cond (a && b) v no_value))) (Some (cond (a && b) v no_value)) None
      by_tests true true = sym (ap (λ n. cond (not n) (Some v) None) some)
      by_tests true false = refl
      by_tests false true = sym (ap (λ n. cond (not n) (Some no_value) None) none_is_none)
      by_tests false false = refl

  pub written_none : (xs : List ℕ) (t : Table Values) → v ≡ no_value → t ≡ tables.empty → t ≡ cells_added (value_at xs) xs
  written_none xs t none is = is ∙ sym (none_added (value_at xs) xs (λ x. either (shared x && is_among xs x)))
    where
      either : (b : Bool) → cond b v no_value ≡ no_value
      either true = none
      either false = refl

-- ---- what an unlock adds

found_among : (es : List (ℕ × Cell)) (y : ℕ) (c : Cell) → find nat_cmp y es ≡ Some c → is_among (map (λ e. e.0) es) y ≡ true
found_among [] y c e = cc
found_among (e ∷ es) y c at = elim (cases_eq y e.0) [
  | inl same ↦ among_here y e.0 (map (λ k. k.0) es) same
  | inr differ ↦ among_there y e.0 (map (λ k. k.0) es) (found_among es y c (sym (find-there y e es differ) ∙ at))
]

module _ (shared : ℕ → Bool) (m : ℕ) (cells : Table Cell) where
  abbrev left : ℕ → Values
  left x = cond (shared x) (left_by m (get cells x)) no_value

  -- the entries of keys below a number
  pub record IsLeftBelow (from : ℕ) (t : Table Values) : Type 0 where
    pub below : (key : ℕ) → key < from → get t key ≡ shown_value (cond (shared key) (left_by m (get cells key)) no_value)
    pub above : (key : ℕ) → from ≤ key → get t key ≡ None

  none_shown : (v : Values) → v ≡ no_value → shown_value v ≡ None
  none_shown v none = ap (λ b. cond b None (Some v)) (ap is_no_value none ∙ none_is_none)

  absent_left : (key : ℕ) → get cells key ≡ None → left key ≡ no_value
  absent_left key none = ap (λ a. cond (shared key) (left_by m a) no_value) none ∙ either (shared key)
    where
      either : (b : Bool) → cond b no_value no_value ≡ no_value
      either true = refl
      either false = refl

  absent_shown : (key : ℕ) → get cells key ≡ None → None ≡ shown_value (left key)
  absent_shown key none = sym (none_shown (left key) (absent_left key none))

  pub left_start : (t : Table Values) → t ≡ tables.empty → IsLeftBelow 0 t
  left_start t none = record { below = λ key less. absurd (omega (arith, less)); above = λ key le. ap (λ u. get u key) none ∙ get-empty nat_cmp key }

  module _ (from : ℕ) (t : Table Values) (so : IsLeftBelow from t) (k : ℕ) (c : Cell) (next : IsNext cells from k c) where
    earlier : (key : ℕ) → key < k → get t key ≡ shown_value (left key)
    earlier key less = elim (cases_lt key from) [ inl lower ↦ so.below key lower | inr upper ↦ so.above key upper ∙ absent_shown key (next.none_between key upper less) ]

    stands_left : (key : ℕ) → key ≡ k → shown_value (cond (shared k) (left_by m (Some c)) no_value) ≡ shown_value (left key)
    stands_left key same = ap (λ a. shown_value (cond (shared k) (left_by m a) no_value)) (sym next.stands) ∙ ap (λ x. shown_value (left x)) (sym same)

    pub left_put : (more : Table Values) (v : Values) → more ≡ insert t k v → Some v ≡ shown_value (cond (shared k) (left_by m (Some c)) no_value) → IsLeftBelow (k + 1) more
    left_put more v is shown = record {
      below = λ key less. ap (λ u. get u key) is ∙ elim (cases_eq key k) [
        | inl same ↦ get-insert_here t k v key same ∙ shown ∙ stands_left key same
        | inr differ ↦ (let lower : key < k = omega (arith, less, differ) in get-insert_there t k v key differ ∙ earlier key lower)
      ];
      above = λ key le.
          (let differ : key ≢ k = λ same. absurd (omega (arith, le, same)) in
          let upper : from ≤ key = omega (arith, le, next.at_least) in
          ap (λ u. get u key) is ∙ get-insert_there t k v key differ ∙ so.above key upper);
    }

    pub left_skip : (more : Table Values) → more ≡ t → None ≡ shown_value (cond (shared k) (left_by m (Some c)) no_value) → IsLeftBelow (k + 1) more
    left_skip more is shown = record {
      below = λ key less. ap (λ u. get u key) is ∙ elim (cases_eq key k) [
        | inl same ↦ (let le : from ≤ key = omega (arith, same, next.at_least) in so.above key le ∙ shown ∙ stands_left key same)
        | inr differ ↦ (let lower : key < k = omega (arith, less, differ) in earlier key lower)
      ];
      above = λ key le. (let upper : from ≤ key = omega (arith, le, next.at_least) in ap (λ u. get u key) is ∙ so.above key upper);
    }

  pub left_all : (from : ℕ) (t : Table Values) → IsLeftBelow from t → IsPast cells from → t ≡ cells_added left (keys cells)
  left_all from t so past = same_table t (cells_added left (keys cells)) (λ key. at key ∙ among key (get cells key) refl ∙ sym (get-added left (keys cells) key))
    where
      at : (key : ℕ) → get t key ≡ shown_value (left key)
      at key = elim (cases_lt key from) [ inl lower ↦ so.below key lower | inr upper ↦ so.above key upper ∙ absent_shown key (past key upper) ]

      flipped : (b : Bool) (v : Values) → cond b None (Some v) ≡ cond (not b) (Some v) None
      flipped true v = refl
      flipped false v = refl

      none_either : (b : Bool) (v : Values) → v ≡ no_value → None ≡ cond (b && not (is_no_value v)) (Some v) None
      none_either true v none = sym (ap (λ n. cond (not n) (Some v) None) (ap is_no_value none ∙ none_is_none))
      none_either false v none = refl

      among : (key : ℕ) (a : Option Cell) → get cells key ≡ a → shown_value (left key) ≡ cond (is_among (keys cells) key && not (is_no_value (left key))) (Some (left key)) None
      among key None e = sym (absent_shown key e) ∙ none_either (is_among (keys cells) key) (left key) (absent_left key e)
      among key (Some c) e = flipped (is_no_value (left key)) (left key) ∙ ap (λ b. cond (b && not (is_no_value (left key))) (Some (left key)) None) (sym (found_among (entries cells) key c (sym (get-entries cells key) ∙ e)))

-- an entry that is shown is not nothing
pub shown_some : (v w : Values) → Some v ≡ shown_value w → v ≡ no_value → ⊥
shown_some v w shown none = by_test (is_no_value w) refl shown
  where
    by_test : (b : Bool) → is_no_value w ≡ b → Some v ≡ cond b None (Some w) → ⊥
    by_test true e f = cc
    by_test false e f = (let same : v ≡ w = cc in true≢false (sym none_is_none ∙ ap is_no_value (sym none ∙ same) ∙ e))

-- ---- what stands in one cell

pub left_own : (a : Bool) (w : Values) → a ≡ false → None ≡ shown_value (cond a w no_value)
left_own a w never = sym (ap (λ b. shown_value (cond b w no_value)) never ∙ ap (λ n. cond n None (Some no_value)) none_is_none)

either_none : (a : Bool) → cond a no_value no_value ≡ no_value
either_none true = refl
either_none false = refl

pub left_nothing : (a : Bool) (w : Values) → w ≡ no_value → None ≡ shown_value (cond a w no_value)
left_nothing a w none = sym (ap shown_value (ap (λ v. cond a v no_value) none ∙ either_none a) ∙ ap (λ n. cond n None (Some no_value)) none_is_none)

pub left_some : (a b : Bool) (v : Values) → a ≡ true → b ≡ true → is_no_value v ≡ false → Some v ≡ shown_value (cond a (cond b v no_value) no_value)
left_some a b v sure there some =
    sym (ap (λ x. shown_value (cond x (cond b v no_value) no_value)) sure ∙ ap (λ x. shown_value (cond x v no_value)) there ∙ ap (λ n. cond n None (Some v)) some)
