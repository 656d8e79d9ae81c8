-- The entries of a table from a key on.
use Rattle.std.proofs.Common.{◌≡◌, ◌≢◌, refl, sym, ap, ◌∙◌, ℕ, ◌+◌, ◌≤◌, ◌<◌, true, false, cond}
use Rattle.std.proofs.Common.{List, [], ◌∷◌, Option, Some, None, T, inl, inr, arith}
use Rattle.std.specs.Prelude.{nat_lt}
use Rattle.std.specs.Ordering.{nat_cmp}
use Rattle.std.specs.Cmp.{nat_cmp_total}
use Rattle.std.specs.FinMap.{find, is_sorted, get, remove, get-remove, entries, get-entries, entries_sorted}
use Rattle.std.proofs.lemmas.Bool.{cases_eq, cases_lt}
use Rattle.std.proofs.lemmas.Bool.Decides.{nat_tests}
use Rattle.tm_lattice.specs.Tables.{Table, IsPast, IsNext}
use Rattle.tm_lattice.specs.laws.Keys.{same_key, other_key, AllAbove, AllAbove-rest, is_sorted-rest, find-here, find-there}
use Rattle.tm_lattice.specs.laws.Keys.{find_below, AllAbove-lower}

below_test : (a k : ℕ) → a < k → nat_lt a k ≡ true
below_test a k less = grind (arith, nat_tests)

above_test : (a k : ℕ) → k ≤ a → nat_lt a k ≡ false
above_test a k le = grind (arith, nat_tests)

module _ {V : Type 0} where
  -- the entries with a key from this one on, of a list in order
  abbrev pub from_key : ℕ → List (ℕ × V) → List (ℕ × V)
  from_key k [] = []
  from_key k (e ∷ es) = cond (nat_lt e.0 k) (from_key k es) (e ∷ es)

  pub skipped : (k : ℕ) (e : ℕ × V) (es : List (ℕ × V)) → e.0 < k → from_key k (e ∷ es) ≡ from_key k es
  skipped k e es less = ap (λ b. cond b (from_key k es) (e ∷ es)) (below_test e.0 k less)

  pub taken : (k : ℕ) (e : ℕ × V) (es : List (ℕ × V)) → k ≤ e.0 → from_key k (e ∷ es) ≡ e ∷ es
  taken k e es le = ap (λ b. cond b (from_key k es) (e ∷ es)) (above_test e.0 k le)

  pub from_first : (es : List (ℕ × V)) → from_key 0 es ≡ es
  from_first [] = refl
  from_first (e ∷ es) = taken 0 e es (omega arith)

  all_above : (k : ℕ) (es : List (ℕ × V)) → AllAbove k es → from_key (k + 1) es ≡ es
  all_above k [] above = refl
  all_above k (e ∷ es) above = let less = above.0 in taken (k + 1) e es (omega (arith, less))

  none_from : (k : ℕ) (es : List (ℕ × V)) → ((key : ℕ) → k ≤ key → find nat_cmp key es ≡ None) → from_key k es ≡ []
  none_from k [] none = refl
  none_from k (e ∷ es) none = elim (cases_lt e.0 k) [
    | inl less ↦
        skipped k e es less
        ∙ none_from k es (λ key le. sym (find-there key e es (λ same. absurd (omega (arith, le, less, same)))) ∙ none key le)
    | inr le ↦ absurd (let h : Some e.1 ≡ None = sym (find-here e.0 e es refl) ∙ none e.0 le in cc)
  ]

  next_from : (k : ℕ) (es : List (ℕ × V)) (key : ℕ) (v : V) → T (is_sorted nat_cmp es) → k ≤ key
      → find nat_cmp key es ≡ Some v → ((other : ℕ) → k ≤ other → other < key → find nat_cmp other es ≡ None)
      → from_key k es ≡ (key, v) ∷ from_key (key + 1) es
  next_from k [] key v sorted le stands none = absurd (let h : (let o : Option V = None in o ≡ Some v) = stands in cc)
  next_from k (e ∷ es) key v sorted le stands none = elim (cases_lt e.0 k) [
    | inl less ↦
        skipped k e es less
        ∙ next_from k es key v (is_sorted-rest e es sorted) le
        (sym (find-there key e es (λ same. absurd (omega (arith, le, less, same)))) ∙ stands)
        (λ other from before. sym (find-there other e es (λ same. absurd (omega (arith, from, less, same)))) ∙ none other from before)
        ∙ ap (λ t. (key, v) ∷ t) (sym (skipped (key + 1) e es (omega (arith, le, less))))
    | inr from ↦ elim (cases_eq key e.0) [
      | inl same ↦
          let value : e.1 ≡ v = (let h : Some e.1 ≡ Some v = sym (find-here key e es same) ∙ stands in cc) in
          taken k e es from
          ∙ ap (λ t. e ∷ t) (sym (skipped (key + 1) e es (omega (arith, same)) ∙ ap (λ n. from_key (n + 1) es) same
          ∙ all_above e.0 es (AllAbove-rest e es sorted)))
          ∙ (λ i. (sym same i, value i) ∷ from_key (key + 1) (e ∷ es))
      | inr differ ↦ absurd (other_place from differ)
    ]
  ]
    where
      other_place : k ≤ e.0 → key ≢ e.0 → ⊥
      other_place from differ = elim (cases_lt e.0 key) [
        | inl before ↦ (let h : Some e.1 ≡ None = sym (find-here e.0 e es refl) ∙ none e.0 from before in cc)
        | inr behind ↦
            (let above : AllAbove key es = AllAbove-lower key e.0 es behind (AllAbove-rest e es sorted) in
            let h : Some v ≡ None = sym stands ∙ find-there key e es differ ∙ find_below key es above in
            cc)
      ]

  pub past_from : (t : Table V) (k : ℕ) → IsPast t k → from_key k (entries t) ≡ []
  past_from t k past = none_from k (entries t) (λ key le. sym (get-entries t key) ∙ past key le)

  pub next_entry : (t : Table V) (k key : ℕ) (v : V) → IsNext t k key v
      → from_key k (entries t) ≡ (key, v) ∷ from_key (key + 1) (entries t)
  next_entry t k key v next =
      next_from k (entries t) key v (entries_sorted t) next.at_least (sym (get-entries t key) ∙ next.stands)
      (λ other from before. sym (get-entries t other) ∙ next.none_between other from before)

  -- no key is greater than k, if with k gone none is there from k on
  pub none_greater : (t : Table V) (k : ℕ) → IsPast (remove t k) k → (key : ℕ) → k < key → get t key ≡ None
  none_greater t k past key less =
      let there : get (remove t k) key ≡ get t key =
      get-remove nat_cmp_total t k key ∙ ap (λ b. cond b None (get t key)) (other_key key k (λ same. absurd (omega (arith, less, same)))) in
      let from : k ≤ key = omega (arith, less) in
      sym there ∙ past key from

  -- and one that is there is another number
  pub another : (t : Table V) (k key : ℕ) (v : V) → IsNext (remove t k) k key v → key ≡ k → ⊥
  another t k key v next same =
      let gone : get (remove t k) key ≡ None = get-remove nat_cmp_total t k key ∙ ap (λ b. cond b None (get t key)) (same_key key k same) in
      let found : Some v ≡ None = sym next.stands ∙ gone in
      cc
