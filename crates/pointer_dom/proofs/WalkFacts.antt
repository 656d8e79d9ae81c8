-- Tables that are made entry by entry from another one.
use Rattle.std.proofs.Common.{◌≡◌, ◌≢◌, ◌↔◌, ⊎_elim, ℕ, Bool, true, false, ◌&&◌, IsTrue, List, [], ◌∷◌, ◌++◌, Option, Some, None, ℤ, refl, sym, ap, subst, ◌∙◌}
use Rattle.std.proofs.lemmas.Bool.{cases_eq}
use Rattle.std.specs.Ordering.{nat_cmp}
use Rattle.std.specs.FinMap as map
use Rattle.std.specs.FinMap.{find}
use Rattle.strided_dom.specs.Progression.{Has, first_of}
use Rattle.strided_dom.proofs.Members.{not_in_empty, some_or_empty}
use Rattle.tm_lattice.specs.Tables.{Table, with_entry, joined_value}
use Rattle.tm_lattice.specs.laws.TableLaws.{get-insert_here, get-insert_there}
use Rattle.pointer_dom.specs.OffsetSets.{OffsetSet, HasNoOffset, IsOffsetsOf, no_offset, joined_offsets}
use Rattle.pointer_dom.specs.PointerSets.{offsets_or_none}
use Rattle.pointer_dom.specs.Advances.{IsGivenAt, IsGiven}
use Rattle.pointer_dom.proofs.MeetFacts.{find_more_here, find_more_there, none_met}

and_both : (a b : Bool) → IsTrue (a && b) ↔ (IsTrue a × IsTrue b)
and_both true b = (λ m. (refl, m), λ m. m.1)
and_both false b = (λ m. (m, absurd (let f : false ≡ true = m in cc)), λ m. m.0)

not_some : (o : OffsetSet) → ◌≡◌ {A = Option OffsetSet} (Some o) None → ⊥
not_some o h = cc

same_some : (o p : OffsetSet) → ◌≡◌ {A = Option OffsetSet} (Some o) (Some p) → o ≡ p
same_some o p h = ap offsets_or_none h

joined_to_none : (at : Option OffsetSet) (m : OffsetSet) → at ≡ None → joined_value joined_offsets at m ≡ m
joined_to_none None m e = refl
joined_to_none (Some x) m e = cc

module _ (P : ℕ → OffsetSet → ℤ → Type 0) (Q : ℕ → OffsetSet → Type 0) where
  -- what these entries give, and whether each has the property Q
  pub record IsWalkedUpTo (es : List (ℕ × OffsetSet)) (r : Table OffsetSet) (all : Bool) : Type 0 where
    pub given : (key : ℕ) → IsGivenAt (P key) (find nat_cmp key es) (map.get r key)
    pub absent : (key : ℕ) → find nat_cmp key es ≡ None → map.get r key ≡ None
    pub hold : IsTrue all ↔ ((key : ℕ) (o : OffsetSet) → find nat_cmp key es ≡ Some o → Q key o)

module _ (P : ℕ → OffsetSet → ℤ → Type 0) (Q : ℕ → OffsetSet → Type 0) (never : (key : ℕ) (v : ℤ) → P key no_offset v → ⊥) where
  pub walked_none : IsWalkedUpTo P Q [] map.empty true
  walked_none = record {
    given = λ key. subst (λ x. IsGivenAt (P key) None x) (sym (map.get-empty nat_cmp key)) (none_met 0 (P key no_offset) (never key));
    absent = λ key _. map.get-empty nat_cmp key;
    hold = (λ _ key o e. absurd (not_some o (sym e)), λ _. refl);
  }

  module _ (es : List (ℕ × OffsetSet)) (e : ℕ × OffsetSet) (r r' : Table OffsetSet) (all one all' : Bool) (m : OffsetSet) (before : IsWalkedUpTo P Q es r all) (fresh : find nat_cmp e.0 es ≡ None)
      (is : IsOffsetsOf e.1.size (P e.0 e.1) m) (one-is : IsTrue one ↔ Q e.0 e.1) (all-is : all' ≡ (all && one)) where
    hold_more : IsTrue all' ↔ ((key : ℕ) (o : OffsetSet) → find nat_cmp key (es ++ e ∷ []) ≡ Some o → Q key o)
    hold_more = (
      λ t key o found. (let both = (and_both all one).0 (subst IsTrue all-is t) in ⊎_elim
          (λ same. (let o-is = same_some e.1 o (sym (find_more_here es e key fresh same) ∙ found) in subst (λ k. Q k o) (sym same) (subst (Q e.0) o-is (one-is.0 both.1))))
          (λ differ. before.hold.0 both.0 key o (sym (find_more_there es e key fresh differ) ∙ found)) (cases_eq key e.0)),
      λ h. subst IsTrue (sym all-is) ((and_both all one).1 (
        before.hold.1 (λ key o found. h key o (find_more_there es e key fresh (λ same. not_some o (sym found ∙ (ap (λ k. find nat_cmp k es) same ∙ fresh))) ∙ found)),
        one-is.1 (h e.0 e.1 (find_more_here es e e.0 fresh refl)),
      )),
    )

    more : IsGivenAt (P e.0) (Some e.1) (map.get r' e.0) → ((key : ℕ) → key ≢ e.0 → map.get r' key ≡ map.get r key) → IsWalkedUpTo P Q (es ++ e ∷ []) r' all'
    more here elsewhere = record {
      given = λ key. ⊎_elim
          (λ same. subst (λ x. IsGivenAt (P key) x (map.get r' key)) (sym (find_more_here es e key fresh same)) (subst (λ k. IsGivenAt (P k) (Some e.1) (map.get r' k)) (sym same) here))
          (λ differ. subst (λ x. IsGivenAt (P key) x (map.get r' key)) (sym (find_more_there es e key fresh differ)) (subst (λ x. IsGivenAt (P key) (find nat_cmp key es) x) (sym (elsewhere key differ)) (before.given key)))
          (cases_eq key e.0);
      absent = λ key none. ⊎_elim
          (λ same. absurd (not_some e.1 (sym (find_more_here es e key fresh same) ∙ none)))
          (λ differ. elsewhere key differ ∙ before.absent key (sym (find_more_there es e key fresh differ) ∙ none))
          (cases_eq key e.0);
      hold = hold_more;
    }

    unchanged : HasNoOffset m → r' ≡ r → IsWalkedUpTo P Q (es ++ e ∷ []) r' all'
    unchanged none same = more
        (subst (λ x. IsGivenAt (P e.0) (Some e.1) x) (sym (ap (λ x. map.get x e.0) same ∙ before.absent e.0 fresh)) (none_met e.1.size (P e.0 e.1) (λ v p. not_in_empty v (subst (λ x. Has x v) none (is.offsets.complete v p)))))
        (λ key _. ap (λ x. map.get x key) same)

    entered : r' ≡ with_entry joined_offsets r e.0 m → IsWalkedUpTo P Q (es ++ e ∷ []) r' all'
    entered same =
        let value = joined_value joined_offsets (map.get r e.0) m in
        let here : map.get r' e.0 ≡ Some m = ap (λ x. map.get x e.0) same ∙ get-insert_here r e.0 value e.0 refl ∙ ap Some (joined_to_none (map.get r e.0) m (before.absent e.0 fresh)) in
        more (subst (λ x. IsGivenAt (P e.0) (Some e.1) x) (sym here) is) (λ key differ. ap (λ x. map.get x key) same ∙ get-insert_there r e.0 value key differ)

    pub walked_more : (HasNoOffset m → r' ≡ r) → ((HasNoOffset m → ⊥) → r' ≡ with_entry joined_offsets r e.0 m) → IsWalkedUpTo P Q (es ++ e ∷ []) r' all'
    walked_more nothing joined = ⊎_elim
        (λ some. entered (joined (λ none. not_in_empty _ (subst (λ x. Has x (first_of m.offsets)) none some))))
        (λ none. unchanged none (nothing none)) (some_or_empty m.offsets)

  module _ (s r : Table OffsetSet) (es : List (ℕ × OffsetSet)) (all : Bool) (whole : es ≡ map.entries s) (walked : IsWalkedUpTo P Q es r all) where
    found_is : (key : ℕ) → find nat_cmp key es ≡ map.get s key
    found_is key = ap (find nat_cmp key) whole ∙ sym (map.get-entries s key)

    pub given_all : IsGiven P s r
    given_all key = subst (λ x. IsGivenAt (P key) x (map.get r key)) (found_is key) (walked.given key)

    at_some : (key : ℕ) (a : Option OffsetSet) → ((o : OffsetSet) → a ≡ Some o → Q key o) → Q key no_offset → Q key (offsets_or_none a)
    at_some key None h q = q
    at_some key (Some o) h q = h o refl

    pub hold_all : ((key : ℕ) → Q key no_offset) → IsTrue all ↔ ((key : ℕ) → Q key (offsets_or_none (map.get s key)))
    hold_all q = (
      λ t key. at_some key (map.get s key) (λ o e. walked.hold.0 t key o (found_is key ∙ e)) (q key),
      λ h. walked.hold.1 (λ key o e. subst (λ a. Q key (offsets_or_none a)) (sym (found_is key) ∙ e) (h key)),
    )
