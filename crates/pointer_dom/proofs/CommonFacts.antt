-- Whether two tables have an offset in common, entry by entry of the first.
use Rattle.std.proofs.Common.{◌≡◌, ◌↔◌, ◌⊎◌, inl, inr, ⊎_elim, ℕ, ◌+◌, ◌<◌, Bool, true, false, not, ◌&&◌, ◌||◌, IsTrue, T, List, [], ◌∷◌, ◌++◌, Some, None, Option, ℤ, pos, nat_abs, ◌≤ℤ◌, refl, sym, ap, subst, ◌∙◌, arith, take, drop, length, get_or}
use Rattle.std.proofs.lemmas.Int.{ints}
use Rattle.std.proofs.lemmas.Bool.{cases_eq}
use Rattle.std.proofs.lemmas.List.{take-append-drop, drop_more}
use Rattle.std.specs.Ordering.{nat_cmp}
use Rattle.std.specs.FinMap as map
use Rattle.std.specs.FinMap.{find}
use Rattle.strided_dom.specs.Progression.{Progression, empty, Has, IsExactly, first_of}
use Rattle.strided_dom.specs.Combinations.{IsInBoth}
use Rattle.strided_dom.proofs.Members.{not_in_empty, some_or_empty}
use Rattle.tm_lattice.specs.laws.Keys.{is_sorted-rest, AllAbove-rest, find-here, find-there}
use Rattle.tm_lattice.specs.Tables.{Table, IsEntry}
use Rattle.pointer_dom.specs.OffsetSets.{OffsetSet, IsOffsetSet, HasNoOffset}
use Rattle.pointer_dom.specs.Pointer.{Pointer, null, invalid, to}
use Rattle.pointer_dom.specs.PointerSets.{Pointers, IsPointers, IsPointer, offsets_or_none}
use Rattle.pointer_dom.specs.Equality.{Meet, MeetAt, MeetTables}
use Rattle.pointer_dom.proofs.EqualityFacts.{no_two}
use Rattle.pointer_dom.proofs.MeetFacts.{above_last, find_more_here, find_more_there}

-- two sets of offsets
pub meet_none : (o o' : OffsetSet) → o'.offsets ≡ empty → MeetAt o o' → ⊥
meet_none o o' e m = not_in_empty m.common (subst (λ s. Has s m.common) e m.in_right)

pub meet_some : (o o' : OffsetSet) (s t both : Progression) (b : Bool) → s ≡ o.offsets → t ≡ o'.offsets → IsExactly (IsInBoth s t) both → (IsTrue b ↔ (both ≡ empty)) → IsTrue (not b) ↔ MeetAt o o'
meet_some o o' s t both b s-is t-is exact h = (
  λ e. ⊎_elim
      (λ some. (let m = exact.sound (first_of both) some in record { common = first_of both; in_left = subst (λ x. Has x (first_of both)) s-is m.0; in_right = subst (λ x. Has x (first_of both)) t-is m.1 }))
      (λ none. absurd (not_both b e (h.1 none))) (some_or_empty both),
  λ m. by_case b refl m,
)
  where
    not_both : (b : Bool) → IsTrue (not b) → IsTrue b → ⊥
    not_both true e f = no_two (sym e)
    not_both false e f = no_two (sym f)

    by_case : (c : Bool) → b ≡ c → MeetAt o o' → IsTrue (not c)
    by_case false e m = refl
    by_case true e m = absurd (not_in_empty m.common (subst (λ x. Has x m.common) (h.0 e) (exact.complete m.common (subst (λ x. Has x m.common) (sym s-is) m.in_left, subst (λ x. Has x m.common) (sym t-is) m.in_right))))

-- the entries so far have nothing in common with the other table
abbrev pub NoneMeets : Table OffsetSet → List (ℕ × OffsetSet) → Type 0
NoneMeets t es = (key : ℕ) → MeetAt (offsets_or_none (find nat_cmp key es)) (offsets_or_none (map.get t key)) → ⊥

pub none_meets : (t : Table OffsetSet) → NoneMeets t []
none_meets t key m = not_in_empty m.common m.in_left

pub one_more_meets : (t : Table OffsetSet) (es : List (ℕ × OffsetSet)) (e : ℕ × OffsetSet) → find nat_cmp e.0 es ≡ None → NoneMeets t es → (MeetAt e.1 (offsets_or_none (map.get t e.0)) → ⊥) → NoneMeets t (es ++ e ∷ [])
one_more_meets t es e fresh before not_here key m = ⊎_elim
    (λ same. not_here (subst (λ k. MeetAt e.1 (offsets_or_none (map.get t k))) same (subst (λ a. MeetAt (offsets_or_none a) (offsets_or_none (map.get t key))) (find_more_here es e key fresh same) m)))
    (λ differ. before key (subst (λ a. MeetAt (offsets_or_none a) (offsets_or_none (map.get t key))) (find_more_there es e key fresh differ) m))
    (cases_eq key e.0)

find_middle : (es fs : List (ℕ × OffsetSet)) (e : ℕ × OffsetSet) → T (map.is_sorted nat_cmp (es ++ e ∷ fs)) → find nat_cmp e.0 (es ++ e ∷ fs) ≡ Some e.1
find_middle [] fs e sorted = find-here e.0 e fs refl
find_middle (x ∷ es) fs e sorted =
    let less = above_last x.0 es fs e (AllAbove-rest x (es ++ e ∷ fs) sorted) in
    find-there e.0 x (es ++ e ∷ fs) (omega (arith, less)) ∙ find_middle es fs e (is_sorted-rest x (es ++ e ∷ fs) sorted)

pub entry_found : (s : Table OffsetSet) (items : List (ℕ × OffsetSet)) (i : ℕ) (e : ℕ × OffsetSet) → items ≡ map.entries s → i < length items → e ≡ get_or items i e → map.get s e.0 ≡ Some e.1
entry_found s items i e whole less e-is =
    let parts : items ≡ take i items ++ e ∷ drop (i + 1) items = sym (take-append-drop i items) ∙ ap (λ x. take i items ++ x) (drop_more items i e less ∙ ap (λ x. x ∷ drop (i + 1) items) (sym e-is)) in
    let sorted = subst (λ l. T (map.is_sorted nat_cmp l)) (sym whole ∙ parts) (map.entries_sorted s) in
    map.get-entries s e.0 ∙ (ap (find nat_cmp e.0) (sym whole ∙ parts) ∙ find_middle (take i items) (drop (i + 1) items) e sorted)

pub tables_meet : (s t : Table OffsetSet) (e : ℕ × OffsetSet) → map.get s e.0 ≡ Some e.1 → MeetAt e.1 (offsets_or_none (map.get t e.0)) → MeetTables s t
tables_meet s t e found m = record { object = e.0; meet = subst (λ a. MeetAt (offsets_or_none a) (offsets_or_none (map.get t e.0))) (sym found) m }

pub tables_apart : (s t : Table OffsetSet) (es : List (ℕ × OffsetSet)) → es ≡ map.entries s → NoneMeets t es → MeetTables s t → ⊥
tables_apart s t es whole none m = none m.object (subst (λ a. MeetAt (offsets_or_none a) (offsets_or_none (map.get t m.object))) (map.get-entries s m.object ∙ ap (find nat_cmp m.object) (sym whole)) m.meet)

-- the sets of pointers
module _ (p q : Pointers) (p-is : IsPointers p) where
  within_at : (a : Option OffsetSet) → IsEntry (λ o. IsOffsetSet o) HasNoOffset a → (v : ℤ) → Has (offsets_or_none a).offsets v → pos 0 ≤ℤ v
  within_at None h v m = absurd (not_in_empty v m)
  within_at (Some o) h v m = (h.0.within v m).from

  not_negative : (v : ℤ) → pos 0 ≤ℤ v → v ≡ pos (nat_abs v)
  not_negative v h = omega (arith, ints)

  from_tables : MeetTables p.objects q.objects → Meet p q
  from_tables h =
      let v = h.meet.common in
      let e = not_negative v (within_at (map.get p.objects h.object) (p-is h.object) v h.meet.in_left) in
      record {
        common = to h.object (nat_abs v);
        in_left = subst (λ x. Has (offsets_or_none (map.get p.objects h.object)).offsets x) e h.meet.in_left;
        in_right = subst (λ x. Has (offsets_or_none (map.get q.objects h.object)).offsets x) e h.meet.in_right;
      }

  both_true : (a b : Bool) → IsTrue (a && b) → IsTrue a × IsTrue b
  both_true true b h = (refl, h)
  both_true false b h = absurd (no_two (sym h))

  true_both : (a b : Bool) → IsTrue a → IsTrue b → IsTrue (a && b)
  true_both true b h k = k
  true_both false b h k = absurd (no_two (sym h))

  one_of : (a b c : Bool) → IsTrue (a || b || c) → IsTrue a ⊎ (IsTrue b ⊎ IsTrue c)
  one_of true b c h = inl refl
  one_of false true c h = inr (inl refl)
  one_of false false c h = inr (inr h)

  first_one : (a b c : Bool) → IsTrue a → IsTrue (a || b || c)
  first_one true b c h = refl
  first_one false b c h = absurd (no_two (sym h))

  second_one : (a b c : Bool) → IsTrue b → IsTrue (a || b || c)
  second_one true b c h = refl
  second_one false true c h = refl
  second_one false false c h = absurd (no_two (sym h))

  third_one : (a b c : Bool) → IsTrue c → IsTrue (a || b || c)
  third_one true b c h = refl
  third_one false true c h = refl
  third_one false false c h = h

  pub meet_is : (a b c d e : Bool) → a ≡ p.null → b ≡ q.null → c ≡ p.invalid → d ≡ q.invalid → (IsTrue e ↔ MeetTables p.objects q.objects) → IsTrue ((a && b) || (c && d) || e) ↔ Meet p q
  meet_is a b c d e a-is b-is c-is d-is h = (
    λ t. ⊎_elim
        (λ x. (let y = both_true a b x in record { common = null; in_left = sym a-is ∙ y.0; in_right = sym b-is ∙ y.1 }))
        (λ x. ⊎_elim
        (λ z. (let y = both_true c d z in record { common = invalid; in_left = sym c-is ∙ y.0; in_right = sym d-is ∙ y.1 }))
        (λ z. from_tables (h.0 z)) x) (one_of (a && b) (c && d) e t),
    λ m. back m.common m.in_left m.in_right,
  )
    where
      back : (x : Pointer) → IsPointer p x → IsPointer q x → IsTrue ((a && b) || (c && d) || e)
      back null m n = first_one (a && b) (c && d) e (true_both a b (a-is ∙ m) (b-is ∙ n))
      back invalid m n = second_one (a && b) (c && d) e (true_both c d (c-is ∙ m) (d-is ∙ n))
      back (to object offset) m n = third_one (a && b) (c && d) e (h.1 (record { object = object; meet = record { common = pos offset; in_left = m; in_right = n } }))
