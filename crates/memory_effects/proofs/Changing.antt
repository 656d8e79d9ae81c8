-- Tables that change key by key.
use Rattle.std.specs.Prelude.{◌≡◌, ◌≢◌, ℕ, ◌+◌, ◌<◌, ◌≤◌, Bool, true, false, cond, eqb, List, [], ◌∷◌, ◌++◌, Option}
use Rattle.std.specs.Prelude.{Some, None, refl}
use Rattle.std.proofs.Common.{sym, ap, subst, ◌∙◌, inl, inr, arith}
use Rattle.std.proofs.lemmas.Bool.{cases_eq, cases_lt, false≢true, eq-eqb, ne_eqb}
use Rattle.std.specs.FinMap.{get, insert, remove, get-remove}
use Rattle.std.specs.Cmp.{nat_cmp_total}
use Rattle.tm_lattice.specs.Tables.{Table, IsPast, IsNext, changed_table}
use Rattle.tm_lattice.specs.laws.Keys.{same_key, other_key}
use Rattle.tm_lattice.specs.laws.TableLaws.{same_table, get-insert_here, get-insert_there}
use Rattle.tm_lattice.specs.laws.SelectedLaws.{changed_at, get-changed_table}
use Rattle.edge_effects.specs.calculations.transfer_rows.Accesses.{is_among}
use Rattle.edge_effects.proofs.Common.{decided, among_more_here, among_more_there}

-- no key is greater than k, if with k gone none is there from k on
pub none_greater : {V : Type 0} (t : Table V) (k : ℕ) → IsPast (remove t k) k → (key : ℕ) → k < key → get t key ≡ None
none_greater t k past key less =
    let there : get (remove t k) key ≡ get t key = get-remove nat_cmp_total t k key ∙ ap (λ b. cond b None (get t key)) (other_key key k (λ same. absurd (omega (arith, less, same)))) in
    let from : k ≤ key = omega (arith, less) in
    sym there ∙ past key from

-- and one that is there is another number
pub another : {V : Type 0} (t : Table V) (k key : ℕ) (v : V) → IsNext (remove t k) k key v → key ≡ k → ⊥
another t k key v next same =
    let gone : get (remove t k) key ≡ None = get-remove nat_cmp_total t k key ∙ ap (λ b. cond b None (get t key)) (same_key key k same) in
    let found : Some v ≡ None = sym next.stands ∙ gone in
    cc

module _ {V : Type 0} (change : ℕ → V → V) (before : Table V) where
  abbrev target : ℕ → Option V
  target key = changed_at change key (get before key)

  kept_at : (key : ℕ) (a : Option V) → ((v : V) → a ≡ Some v → change key v ≡ v) → changed_at change key a ≡ a
  kept_at key None same = refl
  kept_at key (Some v) same = ap Some (same v refl)

  -- ---- one key after another

  -- the keys below a number are changed, and those from there on as before
  pub record IsChangedBelow (from : ℕ) (after : Table V) : Type 0 where
    pub below : (key : ℕ) → key < from → get after key ≡ changed_at change key (get before key)
    pub above : (key : ℕ) → from ≤ key → get after key ≡ get before key

  pub below_start : (from : ℕ) (after : Table V) → after ≡ before → ((key : ℕ) (v : V) → key < from → change key v ≡ v) → IsChangedBelow from after
  below_start from after is same = record {
    below = λ key less. ap (λ t. get t key) is ∙ sym (kept_at key (get before key) (λ v here. same key v less));
    above = λ key le. ap (λ t. get t key) is;
  }

  module _ (from : ℕ) (after : Table V) (so : IsChangedBelow from after) (k : ℕ) (v : V) (next : IsNext before from k v) where
    absent : (key : ℕ) → key < k → from ≤ key → get after key ≡ target key
    absent key less le =
        let none = next.none_between key le less in
        so.above key le ∙ none ∙ sym (ap (changed_at change key) none)

    earlier : (key : ℕ) → key < k → get after key ≡ target key
    earlier key less = elim (cases_lt key from) [ inl lower ↦ so.below key lower | inr upper ↦ absent key less upper ]

    pub below_put : (more : Table V) (w : V) → more ≡ insert after k w → w ≡ change k v → IsChangedBelow (k + 1) more
    below_put more w is made = record {
      below = λ key less. ap (λ t. get t key) is ∙ elim (cases_eq key k) [
        | inl same ↦
            get-insert_here after k w key same ∙ ap Some made
            ∙ sym (ap (changed_at change key) (ap (get before) same ∙ next.stands) ∙ ap (λ x. Some (change x v)) same)
        | inr differ ↦ (let lower : key < k = omega (arith, less, differ) in get-insert_there after k w key differ ∙ earlier key lower)
      ];
      above = λ key le.
          (let differ : key ≢ k = λ same. absurd (omega (arith, le, same)) in
          let upper : from ≤ key = omega (arith, le, next.at_least) in
          ap (λ t. get t key) is ∙ get-insert_there after k w key differ ∙ so.above key upper);
    }

    pub below_skip : (more : Table V) → more ≡ after → change k v ≡ v → IsChangedBelow (k + 1) more
    below_skip more is same = record {
      below = λ key less. ap (λ t. get t key) is ∙ elim (cases_eq key k) [
        | inl here ↦
            (let le : from ≤ key = omega (arith, here, next.at_least) in
            let stands : get before key ≡ Some v = ap (get before) here ∙ next.stands in
            so.above key le ∙ stands ∙ sym (ap (changed_at change key) stands ∙ ap (λ x. Some (change x v)) here ∙ ap Some same))
        | inr differ ↦ (let lower : key < k = omega (arith, less, differ) in earlier key lower)
      ];
      above = λ key le. (let upper : from ≤ key = omega (arith, le, next.at_least) in ap (λ t. get t key) is ∙ so.above key upper);
    }

    -- where nothing changes from k on
    pub below_end : ((key : ℕ) (w : V) → k ≤ key → change key w ≡ w) → after ≡ changed_table change before
    below_end same = same_table after (changed_table change before) (λ key.
        (elim (cases_lt key k) [
          | inl lower ↦ earlier key lower
          | inr upper ↦ (let le : from ≤ key = omega (arith, upper, next.at_least) in so.above key le ∙ sym (kept_at key (get before key) (λ w here. same key w upper)))
        ]) ∙ sym (get-changed_table change before key))

  pub below_all : (from : ℕ) (after : Table V) → IsChangedBelow from after → IsPast before from → after ≡ changed_table change before
  below_all from after so past = same_table after (changed_table change before) (λ key.
      (elim (cases_lt key from) [
        | inl lower ↦ so.below key lower
        | inr upper ↦ so.above key upper ∙ past key upper ∙ sym (ap (changed_at change key) (past key upper))
      ]) ∙ sym (get-changed_table change before key))

  -- ---- the keys of a list

  -- these keys are changed, and all others as before
  pub record IsChangedAmong (keys : List ℕ) (after : Table V) : Type 0 where
    pub among : (key : ℕ) → is_among keys key ≡ true → get after key ≡ changed_at change key (get before key)
    pub others : (key : ℕ) → is_among keys key ≡ false → get after key ≡ get before key

  pub among_start : (after : Table V) → after ≡ before → IsChangedAmong [] after
  among_start after is = record { among = λ key h. absurd (false≢true h); others = λ key h. ap (λ t. get t key) is }

  module _ (keys : List ℕ) (k : ℕ) (after : Table V) (so : IsChangedAmong keys after) where
    -- the others stay, and k is changed
    pub among_more : (more : Table V) → ((key : ℕ) → key ≢ k → get more key ≡ get after key) → get more k ≡ changed_at change k (get before k) → IsChangedAmong (keys ++ k ∷ []) more
    among_more more there here = record {
      among = λ key h. elim (cases_eq key k) [
        | inl same ↦ ap (get more) same ∙ here ∙ ap (λ x. changed_at change x (get before x)) (sym same)
        | inr differ ↦ there key differ ∙ so.among key (sym (among_more_there keys k key differ) ∙ h)
      ];
      others = λ key h. elim (cases_eq key k) [
        | inl same ↦ absurd (false≢true (sym h ∙ among_more_here keys k key same))
        | inr differ ↦ there key differ ∙ so.others key (sym (among_more_there keys k key differ) ∙ h)
      ];
    }

  pub among_next : (keys : List ℕ) (k : ℕ) (after more : Table V) → IsChangedAmong keys after → changed_at change k (get after k) ≡ changed_at change k (get before k)
      → more ≡ changed_table (λ key v. cond (eqb key k) (change key v) v) after → IsChangedAmong (keys ++ k ∷ []) more
  among_next keys k after more so twice is =
      among_more keys k after so more (λ key differ. at key ∙ not_k key differ (get after key)) (at k ∙ at_k (get after k) ∙ twice)
    where
      at : (key : ℕ) → get more key ≡ changed_at (λ x v. cond (eqb x k) (change x v) v) key (get after key)
      at key = ap (λ t. get t key) is ∙ get-changed_table (λ x v. cond (eqb x k) (change x v) v) after key

      at_k : (a : Option V) → changed_at (λ x v. cond (eqb x k) (change x v) v) k a ≡ changed_at change k a
      at_k None = refl
      at_k (Some v) = ap (λ b. Some (cond b (change k v) v)) (eq-eqb k k refl)

      not_k : (key : ℕ) → key ≢ k → (a : Option V) → changed_at (λ x v. cond (eqb x k) (change x v) v) key a ≡ a
      not_k key differ None = refl
      not_k key differ (Some v) = ap (λ b. Some (cond b (change key v) v)) (ne_eqb key k differ)

  -- the change of the keys of a list alone
  pub among_where : (keys : List ℕ) (after : Table V) → IsChangedAmong keys after → after ≡ changed_table (λ key v. cond (is_among keys key) (change key v) v) before
  among_where keys after so = same_table after (changed_table (λ key v. cond (is_among keys key) (change key v) v) before) (λ key.
      (elim (decided (is_among keys key)) [
        | inl sure ↦ so.among key sure ∙ sym (where_sure key sure (get before key))
        | inr never ↦ so.others key never ∙ sym (where_never key never (get before key))
      ]) ∙ sym (get-changed_table (λ key v. cond (is_among keys key) (change key v) v) before key))
    where
      where_sure : (key : ℕ) → is_among keys key ≡ true → (a : Option V) → changed_at (λ k v. cond (is_among keys k) (change k v) v) key a ≡ changed_at change key a
      where_sure key sure None = refl
      where_sure key sure (Some v) = ap (λ b. Some (cond b (change key v) v)) sure

      where_never : (key : ℕ) → is_among keys key ≡ false → (a : Option V) → changed_at (λ k v. cond (is_among keys k) (change k v) v) key a ≡ a
      where_never key never None = refl
      where_never key never (Some v) = ap (λ b. Some (cond b (change key v) v)) never

  -- the change of one key alone
  module _ (x : ℕ) where
    at_x : (key : ℕ) → key ≡ x → (a : Option V) → changed_at (λ k v. cond (eqb k x) (change k v) v) key a ≡ changed_at change key a
    at_x key same None = refl
    at_x key same (Some v) = ap (λ b. Some (cond b (change key v) v)) (eq-eqb key x same)

    not_x : (key : ℕ) → key ≢ x → (a : Option V) → changed_at (λ k v. cond (eqb k x) (change k v) v) key a ≡ a
    not_x key differ None = refl
    not_x key differ (Some v) = ap (λ b. Some (cond b (change key v) v)) (ne_eqb key x differ)

    pub one_changed : (after : Table V) (v w : V) → get before x ≡ Some v → w ≡ change x v → after ≡ insert before x w → after ≡ changed_table (λ k u. cond (eqb k x) (change k u) u) before
    one_changed after v w stands made is = is ∙ same_table (insert before x w) (changed_table (λ k u. cond (eqb k x) (change k u) u) before) (λ key.
        (elim (cases_eq key x) [
          | inl same ↦
              get-insert_here before x w key same ∙ ap Some made
              ∙ sym (at_x key same (get before key) ∙ ap (changed_at change key) (ap (get before) same ∙ stands) ∙ ap (λ k. Some (change k v)) same)
          | inr differ ↦ get-insert_there before x w key differ ∙ sym (not_x key differ (get before key))
        ]) ∙ sym (get-changed_table (λ k u. cond (eqb k x) (change k u) u) before key))

    pub one_absent : (after : Table V) → get before x ≡ None → after ≡ before → after ≡ changed_table (λ k u. cond (eqb k x) (change k u) u) before
    one_absent after none is = is ∙ same_table before (changed_table (λ k u. cond (eqb k x) (change k u) u) before) (λ key.
        (elim (cases_eq key x) [
          | inl same ↦ (let absent : get before key ≡ None = ap (get before) same ∙ none in absent ∙ sym (ap (changed_at (λ k u. cond (eqb k x) (change k u) u) key) absent))
          | inr differ ↦ sym (not_x key differ (get before key))
        ]) ∙ sym (get-changed_table (λ k u. cond (eqb k x) (change k u) u) before key))

    pub one_same : (after : Table V) (v : V) → get before x ≡ Some v → change x v ≡ v → after ≡ before → after ≡ changed_table (λ k u. cond (eqb k x) (change k u) u) before
    one_same after v stands same is = is ∙ same_table before (changed_table (λ k u. cond (eqb k x) (change k u) u) before) (λ key.
        (elim (cases_eq key x) [
          | inl here ↦
              (let there : get before key ≡ Some v = ap (get before) here ∙ stands in
              there ∙ sym (at_x key here (get before key) ∙ ap (changed_at change key) there ∙ ap (λ k. Some (change k v)) here ∙ ap Some same))
          | inr differ ↦ sym (not_x key differ (get before key))
        ]) ∙ sym (get-changed_table (λ k u. cond (eqb k x) (change k u) u) before key))
