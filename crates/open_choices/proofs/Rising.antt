-- Numbers that rise, and the search among them.
use Rattle.std.proofs.Common.{◌≡◌, ◌↔◌, ◌⊎◌, ℕ, ◌+◌, ◌<◌, ◌≤◌, ◌==◌, inl, inr, refl, sym, ap, subst, ◌∙◌, List, [], ◌∷◌}
use Rattle.std.proofs.Common.{length, get_or, Bool, true, eqb, Result, Ok, Err, is_ok, IsTrue, arith}
use Rattle.std.specs.Prelude.{Contains}
use Rattle.std.specs.List.{dedup, AllPairs}
use Rattle.std.specs.List.Sorted.{IsStrictlyIncreasing, IsSorted, IsPermutation, IsBinarySearchResult}
use Rattle.std.specs.List.Retain.{IsFiltered, DiffersFromLast}
use Rattle.std.specs.Ordering.{nat_cmp}
use Rattle.std.proofs.lemmas.Bool.{cases_eq, cases_lt, false≢true}
use Rattle.std.proofs.lemmas.List.{get_or_default}
use Rattle.std.proofs.lemmas.List.Filters.{dedup_is}
use Rattle.std.proofs.lemmas.List.Kept.{AllPairs-from_increasing, Contains-dedup_nat, Contains-from_dedup}
use Rattle.std.proofs.lemmas.List.Sorted.{Contains-permutation, IsPermutation-sym, searched}
use Rattle.std.proofs.lemmas.Map.Keys.{IsStrictlyIncreasing-dedup}
use Rattle.interfere_set.specs.Stores.{Interferences}
use Rattle.open_choices.specs.reading.Left.{IsHeldByOthers, AreHeldByOthers}
use Rattle.open_choices.proofs.ChoiceLists.{front_none}

module _ (xs : List ℕ) (x : ℕ) (rising : IsStrictlyIncreasing xs) where
  not_falling : (i j : ℕ) → i ≤ j → j < length xs → get_or xs i 0 ≤ get_or xs j 0
  not_falling i j le lt = elim (cases_eq i j) [
    | inl same ↦ subst (λ k. get_or xs i 0 ≤ get_or xs k 0) same (omega arith)
    | inr differ ↦
        let less = AllPairs-from_increasing xs rising i j 0 (omega (arith, le, differ)) lt in omega (arith, less)
  ]

  by_result : (r : Result ℕ ℕ) → IsBinarySearchResult (λ y. nat_cmp y x) xs r → (is_ok r ≡ true) ↔ Contains xs x
  by_result (Ok i) h =
      let at = searched xs x (Ok i) h not_falling in
      (λ e. (i, at.0, get_or_default xs i x 0 at.0 ∙ at.1), λ c. refl)
  by_result (Err i) h =
      let apart = searched xs x (Err i) h not_falling in (
        λ e. absurd (false≢true e),
        λ c. (let here = get_or_default xs c.0 0 x c.1 ∙ c.2 in elim (cases_lt c.0 i) [
          | inl less ↦ (let below = apart.1 c.0 less in absurd (omega (arith, below, here)))
          | inr le ↦ (let above = apart.2 c.0 le c.1 in absurd (omega (arith, above, here)))
        ]),
      )

  pub among : (r : Result ℕ ℕ) → IsBinarySearchResult (λ y. nat_cmp y x) xs r → (is : Bool) → is ≡ is_ok r
      → IsTrue is ↔ Contains xs x
  among r h is value =
      let both = by_result r h in (λ e. both.0 (sym value ∙ e), λ c. value ∙ both.1 c)

module _ (store : Interferences) (body : ℕ) (given ordered kept : List ℕ)
    (added : (x : ℕ) → Contains given x ↔ (Contains [] x ⊎ IsHeldByOthers store body x))
    (perm : IsPermutation given ordered) (sorted : IsSorted nat_cmp ordered) (filtered : IsFiltered (DiffersFromLast ◌==◌) [] ordered kept) where
  are : kept ≡ dedup ◌==◌ ordered
  are = dedup_is ◌==◌ ordered kept filtered

  none : (x : ℕ) → Contains [] x → ⊥
  none x (k, lt, e) = absurd (omega (arith, lt))

  same : (x : ℕ) → Contains kept x ↔ IsHeldByOthers store body x
  same x = (
    λ h. elim ((added x).0 (Contains-permutation ordered given x (IsPermutation-sym given ordered perm)
        (Contains-from_dedup ◌==◌ ordered x (subst (λ z. Contains z x) are h)))) [
          | inl old ↦ absurd (none x old)
          | inr held ↦ held
        ],
    λ h. subst (λ z. Contains z x) (sym are)
        (Contains-dedup_nat ordered x (Contains-permutation given ordered x perm ((added x).1 (inr h)))),
  )

  pub held_so : AreHeldByOthers store body kept
  held_so = record {
    rising = subst IsStrictlyIncreasing (sym are) (IsStrictlyIncreasing-dedup ordered sorted);
    exact = same;
  }

pub held : (store : Interferences) (body : ℕ) (given ordered kept old : List ℕ)
    → ((x : ℕ) → Contains given x ↔ (Contains old x ⊎ IsHeldByOthers store body x)) → old ≡ []
    → IsPermutation given ordered → IsSorted nat_cmp ordered → IsFiltered (DiffersFromLast ◌==◌) [] ordered kept
    → AreHeldByOthers store body kept
held store body given ordered kept old added none perm sorted filtered =
    held_so store body given ordered kept
    (subst (λ zs. (x : ℕ) → Contains given x ↔ (Contains zs x ⊎ IsHeldByOthers store body x)) none added) perm sorted
    filtered
