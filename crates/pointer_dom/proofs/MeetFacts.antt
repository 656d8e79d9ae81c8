-- The offsets in two tables, entry by entry of the first.
use Rattle.std.proofs.Common.{◌≡◌, ◌≢◌, ⊎_elim, ℕ, ◌+◌, ◌<◌, cond, T, List, [], ◌∷◌, ◌++◌, Option, Some, None, min, ℤ, refl, sym, ap, subst, ◌∙◌, arith, take, drop, length, get_or}
use Rattle.std.proofs.lemmas.Bool.{cases_eq}
use Rattle.std.proofs.lemmas.List.{take-append-drop, drop_more, take_more}
use Rattle.std.specs.Cmp.{nat_cmp_total}
use Rattle.std.specs.Ordering.{nat_cmp}
use Rattle.std.specs.FinMap as map
use Rattle.std.specs.FinMap.{find, is_sorted}
use Rattle.std.specs.FinMap.Entries.{find-append}
use Rattle.strided_dom.specs.Progression.{single, Has, first_of}
use Rattle.strided_dom.specs.Combinations.{IsInBoth}
use Rattle.strided_dom.proofs.Members.{not_in_empty, some_or_empty}
use Rattle.tm_lattice.specs.laws.Keys.{AllAbove, AllAbove-rest, is_sorted-rest, find-there, same_key, other_key}
use Rattle.tm_lattice.specs.Tables.{Table, with_entry, joined_value}
use Rattle.tm_lattice.specs.laws.TableLaws.{get-insert_here, get-insert_there}
use Rattle.pointer_dom.specs.OffsetSets.{OffsetSet, HasNoOffset, IsOffsetsOf, no_offset, joined_offsets}
use Rattle.pointer_dom.specs.PointerSets.{IsMeetAt}

-- a key is not among the entries before it
pub above_last : (k : ℕ) (es fs : List (ℕ × OffsetSet)) (e : ℕ × OffsetSet) → AllAbove k (es ++ e ∷ fs) → k < e.0
above_last k [] fs e above = above.0
above_last k (x ∷ es) fs e above = above_last k es fs e above.1

pub find_fresh : (es fs : List (ℕ × OffsetSet)) (e : ℕ × OffsetSet) → T (is_sorted nat_cmp (es ++ e ∷ fs)) → find nat_cmp e.0 es ≡ None
find_fresh [] fs e sorted = refl
find_fresh (x ∷ es) fs e sorted =
    let less = above_last x.0 es fs e (AllAbove-rest x (es ++ e ∷ fs) sorted) in
    find-there e.0 x es (omega (arith, less)) ∙ find_fresh es fs e (is_sorted-rest x (es ++ e ∷ fs) sorted)

-- one entry more of a sorted list
pub one_more : (items : List (ℕ × OffsetSet)) (i : ℕ) (e : ℕ × OffsetSet) → T (is_sorted nat_cmp items) → i < length items → e ≡ get_or items i e → (take (i + 1) items ≡ take i items ++ e ∷ []) × (find nat_cmp e.0 (take i items) ≡ None)
one_more items i e sorted less e-is =
    let whole : items ≡ take i items ++ e ∷ drop (i + 1) items = sym (take-append-drop i items) ∙ ap (λ x. take i items ++ x) (drop_more items i e less ∙ ap (λ x. x ∷ drop (i + 1) items) (sym e-is)) in
    (take_more items i e less ∙ ap (λ x. take i items ++ x ∷ []) (sym e-is), find_fresh (take i items) (drop (i + 1) items) e (subst (λ x. T (is_sorted nat_cmp x)) whole sorted))

-- what is found after one entry more
pub find_more_here : (es : List (ℕ × OffsetSet)) (e : ℕ × OffsetSet) (key : ℕ) → find nat_cmp e.0 es ≡ None → key ≡ e.0 → find nat_cmp key (es ++ e ∷ []) ≡ Some e.1
find_more_here es e key fresh same = find-append nat_cmp nat_cmp_total es e.0 e.1 key fresh ∙ ap (λ b. cond b (Some e.1) (find nat_cmp key es)) (same_key key e.0 same)

pub find_more_there : (es : List (ℕ × OffsetSet)) (e : ℕ × OffsetSet) (key : ℕ) → find nat_cmp e.0 es ≡ None → key ≢ e.0 → find nat_cmp key (es ++ e ∷ []) ≡ find nat_cmp key es
find_more_there es e key fresh differ = find-append nat_cmp nat_cmp_total es e.0 e.1 key fresh ∙ ap (λ b. cond b (Some e.1) (find nat_cmp key es)) (other_key key e.0 differ)

-- the meets of these entries with another table
pub record IsMetUpTo (t : Table OffsetSet) (es : List (ℕ × OffsetSet)) (r : Table OffsetSet) : Type 0 where
  pub met : (key : ℕ) → IsMeetAt (find nat_cmp key es) (map.get t key) (map.get r key)
  pub absent : (key : ℕ) → find nat_cmp key es ≡ None → map.get r key ≡ None

-- nothing is met where one side is absent
pub none_met : (size : ℕ) (P : ℤ → Type 0) → ((v : ℤ) → P v → ⊥) → IsOffsetsOf size P no_offset
none_met size P never = record {
  offsets = record { sound = λ v p. absurd (not_in_empty v p); complete = λ v p. absurd (never v p) };
  some = λ h. absurd (h refl);
  none = λ _. refl;
}

met_left_none : (b : Option OffsetSet) → IsMeetAt None b None
met_left_none b = none_met _ _ (λ v p. not_in_empty v p.0)

met_right_none : (a : Option OffsetSet) → IsMeetAt a None None
met_right_none a = none_met _ _ (λ v p. not_in_empty v p.1)

pub met_none : (t : Table OffsetSet) → IsMetUpTo t [] map.empty
met_none t = record {
  met = λ key. subst (λ x. IsMeetAt None (map.get t key) x) (sym (map.get-empty nat_cmp key)) (met_left_none (map.get t key));
  absent = λ key _. map.get-empty nat_cmp key;
}

module _ (t : Table OffsetSet) (es : List (ℕ × OffsetSet)) (e : ℕ × OffsetSet) (r r' : Table OffsetSet) (before : IsMetUpTo t es r) (fresh : find nat_cmp e.0 es ≡ None) where
  -- an entry more, where the new table has at its key what is met there, and is as before elsewhere
  met_more : IsMeetAt (Some e.1) (map.get t e.0) (map.get r' e.0) → ((key : ℕ) → key ≢ e.0 → map.get r' key ≡ map.get r key) → IsMetUpTo t (es ++ e ∷ []) r'
  met_more here elsewhere = record {
    met = λ key. ⊎_elim
        (λ same. subst (λ x. IsMeetAt x (map.get t key) (map.get r' key)) (sym (find_more_here es e key fresh same)) (subst (λ k. IsMeetAt (Some e.1) (map.get t k) (map.get r' k)) (sym same) here))
        (λ differ. subst (λ x. IsMeetAt x (map.get t key) (map.get r' key)) (sym (find_more_there es e key fresh differ)) (subst (λ x. IsMeetAt (find nat_cmp key es) (map.get t key) x) (sym (elsewhere key differ)) (before.met key)))
        (cases_eq key e.0);
    absent = λ key none. ⊎_elim
        (λ same. absurd (not_some e.1 (sym (find_more_here es e key fresh same) ∙ none)))
        (λ differ. elsewhere key differ ∙ before.absent key (sym (find_more_there es e key fresh differ) ∙ none))
        (cases_eq key e.0);
  }
    where
      not_some : (o : OffsetSet) → ◌≡◌ {A = Option OffsetSet} (Some o) None → ⊥
      not_some o h = cc

  pub met_absent : map.get t e.0 ≡ None → r' ≡ r → IsMetUpTo t (es ++ e ∷ []) r'
  met_absent none same = met_more
      (subst (λ x. IsMeetAt (Some e.1) x (map.get r' e.0)) (sym none) (subst (λ x. IsMeetAt (Some e.1) None x) (sym (ap (λ x. map.get x e.0) same ∙ before.absent e.0 fresh)) (met_right_none (Some e.1))))
      (λ key _. ap (λ x. map.get x key) same)

  module _ (o m : OffsetSet) (there : map.get t e.0 ≡ Some o) (is : IsOffsetsOf (min e.1.size o.size) (IsInBoth e.1.offsets o.offsets) m) where
    empty_met : HasNoOffset m → IsMeetAt (Some e.1) (Some o) None
    empty_met none = none_met _ _ (λ v p. not_in_empty v (subst (λ x. Has x v) none (is.offsets.complete v p)))

    unchanged : HasNoOffset m → r' ≡ r → IsMetUpTo t (es ++ e ∷ []) r'
    unchanged none same = met_more
        (subst (λ x. IsMeetAt (Some e.1) x (map.get r' e.0)) (sym there) (subst (λ x. IsMeetAt (Some e.1) (Some o) x) (sym (ap (λ x. map.get x e.0) same ∙ before.absent e.0 fresh)) (empty_met none)))
        (λ key _. ap (λ x. map.get x key) same)

    value_is : (at : Option OffsetSet) → at ≡ None → joined_value joined_offsets at m ≡ m
    value_is None e' = refl
    value_is (Some x) e' = cc

    entered : r' ≡ with_entry joined_offsets r e.0 m → IsMetUpTo t (es ++ e ∷ []) r'
    entered same =
        let value = joined_value joined_offsets (map.get r e.0) m in
        let here : map.get r' e.0 ≡ Some m = ap (λ x. map.get x e.0) same ∙ get-insert_here r e.0 value e.0 refl ∙ ap Some (value_is (map.get r e.0) (before.absent e.0 fresh)) in
        met_more
        (subst (λ x. IsMeetAt (Some e.1) x (map.get r' e.0)) (sym there) (subst (λ x. IsMeetAt (Some e.1) (Some o) x) (sym here) is))
        (λ key differ. ap (λ x. map.get x key) same ∙ get-insert_there r e.0 value key differ)

    pub met_there : (HasNoOffset m → r' ≡ r) → ((HasNoOffset m → ⊥) → r' ≡ with_entry joined_offsets r e.0 m) → IsMetUpTo t (es ++ e ∷ []) r'
    met_there nothing joined = ⊎_elim
        (λ some. entered (joined (λ none. not_in_empty _ (subst (λ x. Has x (first_of m.offsets)) none some))))
        (λ none. unchanged none (nothing none)) (some_or_empty m.offsets)

-- the table with one pointer
pub one_object : (object : ℕ) (o : OffsetSet) (none one : Table OffsetSet) (v : ℤ) → o.offsets ≡ single v → none ≡ map.empty → ((HasNoOffset o → ⊥) → one ≡ with_entry joined_offsets none object o) → one ≡ map.insert map.empty object o
one_object object o none one v o-is none-is joined =
    joined (λ e. (let f = sym o-is ∙ e in cc))
    ∙ ap (λ t. with_entry joined_offsets t object o) none-is
    ∙ ap (λ x. map.insert map.empty object x) (ap (λ at. joined_value joined_offsets at o) (map.get-empty nat_cmp object))
