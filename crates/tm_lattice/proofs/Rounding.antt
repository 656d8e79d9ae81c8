-- Rounding at one key after the other.
use Rattle.std.proofs.Common.{◌≡◌, ◌≢◌, ℕ, ◌+◌, ◌<◌, Bool, true, false, ◌||◌, cond, List, [], ◌∷◌, length, get_or, take, Option, Some, None, eqb, eq-eqb, eqb-true, refl, sym, ap, subst, ◌∙◌, inl, inr}
use Rattle.std.proofs.lemmas.Bool.{cases_eq}
use Rattle.std.proofs.lemmas.List.Folds.{list_any_more}
use Rattle.std.specs.List.{list_any}
use Rattle.std.specs.FinMap as fin
use Rattle.std.specs.FinMap.{get}
use Rattle.tm_lattice.specs.LatticeLaws.{IsOrder, IsClosure, IsLeastNothing}
use Rattle.tm_lattice.specs.Tables.{Table, IsEntry, IsTable, rounded_among, selected_table}
use Rattle.tm_lattice.specs.laws.TableLaws.{same_table, get-insert_here, get-insert_there}
use Rattle.tm_lattice.specs.laws.SelectedLaws.{changed_at, get-changed_table}

eqb_here : (k q : ℕ) → q ≡ k → eqb k q ≡ true
eqb_here k q same = eq-eqb k q (sym same)

eqb_there : (k q : ℕ) → q ≢ k → eqb k q ≡ false
eqb_there k q differ = elim (eqb k q) as (λ b. eqb k q ≡ b → b ≡ false) [
  | true ↦ λ is. absurd (differ (sym (eqb-true k q is)))
  | false ↦ λ is. refl
] refl

or_false : (b : Bool) → (b || false) ≡ b
or_false true = refl
or_false false = refl

module _ {V : Type 0} (round : V → V) where
  -- what stands at a key once the value at one key is rounded
  at_one : (t : Table V) (key q : ℕ) → get (selected_table round (key ∷ []) t) q ≡ changed_at (λ k v. cond (eqb key k) (round v) v) q (get t q)
  at_one t key q = get-changed_table (rounded_among round (key ∷ [])) t q ∙ same_at (get t q) where
    same_at : (x : Option V) → changed_at (rounded_among round (key ∷ [])) q x ≡ changed_at (λ k v. cond (eqb key k) (round v) v) q x
    same_at None = refl
    same_at (Some v) = ap (λ b. Some (cond b (round v) v)) (or_false (eqb key q))

  elsewhere : (key q : ℕ) (x : Option V) → q ≢ key → changed_at (λ k v. cond (eqb key k) (round v) v) q x ≡ x
  elsewhere key q None differ = refl
  elsewhere key q (Some v) differ = ap (λ b. Some (cond b (round v) v)) (eqb_there key q differ)

  -- a key where nothing stands
  pub absent_selected : (t : Table V) (key : ℕ) → get t key ≡ None → t ≡ selected_table round (key ∷ []) t
  absent_selected t key none = same_table _ _ (λ q. elim (cases_eq q key) [
    | inl here ↦ ap (get t) here ∙ none ∙ sym (at_one t key q ∙ ap (changed_at (λ k v. cond (eqb key k) (round v) v) q) (ap (get t) here ∙ none))
    | inr there ↦ sym (at_one t key q ∙ elsewhere key q (get t q) there)
  ])

  -- the rounded value written over what stands at a key
  pub written_selected : (t : Table V) (key : ℕ) (v w : V) → get t key ≡ Some v → w ≡ round v → fin.insert t key w ≡ selected_table round (key ∷ []) t
  written_selected t key v w stands made = same_table _ _ (λ q. elim (cases_eq q key) [
    | inl here ↦
        get-insert_here t key w q here ∙ ap Some made ∙ ap (λ b. Some (cond b (round v) v)) (sym (eqb_here key q here))
        ∙ sym (at_one t key q ∙ ap (changed_at (λ k v. cond (eqb key k) (round v) v) q) (ap (get t) here ∙ stands))
    | inr there ↦ get-insert_there t key w q there ∙ sym (at_one t key q ∙ elsewhere key q (get t q) there)
  ])

  pub none_selected : (t : Table V) → t ≡ selected_table round [] t
  none_selected t = same_table _ _ (λ q. sym (get-changed_table (rounded_among round []) t q ∙ stays (get t q) q)) where
    stays : (x : Option V) (q : ℕ) → changed_at (rounded_among round []) q x ≡ x
    stays None q = refl
    stays (Some v) q = refl

  again : (a b : Bool) (v : V) → round (round v) ≡ round v → cond b (round (cond a (round v) v)) (cond a (round v) v) ≡ cond (a || b) (round v) v
  again true true v twice = twice
  again true false v twice = refl
  again false b v twice = refl

  -- one more key
  pub more_selected : (t : Table V) (keys : List ℕ) (i d : ℕ) → i < length keys → ((key : ℕ) (v : V) → get t key ≡ Some v → round (round v) ≡ round v)
      → selected_table round (get_or keys i d ∷ []) (selected_table round (take i keys) t) ≡ selected_table round (take (i + 1) keys) t
  more_selected t keys i d within twice = same_table _ _ (λ q.
      at_one (selected_table round (take i keys) t) (get_or keys i d) q
      ∙ ap (changed_at (λ k v. cond (eqb (get_or keys i d) k) (round v) v) q) (get-changed_table (rounded_among round (take i keys)) t q)
      ∙ one_more q (get t q) (λ v is. twice q v is)
      ∙ sym (get-changed_table (rounded_among round (take (i + 1) keys)) t q)) where
        one_more : (q : ℕ) (x : Option V) → ((v : V) → x ≡ Some v → round (round v) ≡ round v)
            → changed_at (λ k v. cond (eqb (get_or keys i d) k) (round v) v) q (changed_at (rounded_among round (take i keys)) q x) ≡ changed_at (rounded_among round (take (i + 1) keys)) q x
        one_more q None same = refl
        one_more q (Some v) same =
            ap Some (again (list_any (λ k. eqb k q) (take i keys)) (eqb (get_or keys i d) q) v (same v refl))
            ∙ ap (λ b. Some (cond b (round v) v)) (sym (list_any_more (λ k. eqb k q) keys i d within))

module _ {V M : Type 0} (is_value : V → Type 0) (is_marks : M → Type 0) (leq : V → V → Type 0) (rounded : M → V → V) (nothing : V → Type 0)
    (order : IsOrder is_value leq) (closure : IsClosure is_value is_marks leq rounded) (least : IsLeastNothing is_value is_marks leq rounded nothing) where
  abbrev IsEntryOf : Option V → Type 0
  IsEntryOf x = IsEntry is_value nothing x

  -- the rounding of an entry's value is no more nothing than the value
  pub rounded_some : (marks : M) (t : Table V) (key : ℕ) (v w : V) → is_marks marks → IsTable is_value nothing t → get t key ≡ Some v → w ≡ rounded marks v → nothing w → ⊥
  rounded_some marks t key v w m t-is stands made none =
      let v-is = subst IsEntryOf stands (t-is key) in
      let w-is = closure.value marks v m v-is.0 in
      v-is.1 (subst nothing (order.antisymmetric (rounded marks v) v w-is v-is.0 (least.below (rounded marks v) v w-is v-is.0 (subst nothing made none)) (closure.extensive marks v m v-is.0)) (subst nothing made none))

  pub entries_twice : (marks : M) (t : Table V) → is_marks marks → IsTable is_value nothing t → (key : ℕ) (v : V) → get t key ≡ Some v → rounded marks (rounded marks v) ≡ rounded marks v
  entries_twice marks t m t-is key v stands = closure.idempotent marks v m (subst IsEntryOf stands (t-is key)).0
