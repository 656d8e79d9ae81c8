-- Rising lists.
use Rattle.std.proofs.Common.{◌≡◌, sym, subst, ℕ, zero, suc, ◌+◌, ◌-◌, ◌<◌, ◌≤◌, ◌⊎◌, inl, inr, List, [], ◌∷◌, ◌++◌, length, get_or, arith}
use Rattle.std.specs.Prelude.{All, Contains}
use Rattle.std.specs.List.{insert}
use Rattle.std.specs.List.Sorted.{IsStrictlyIncreasing}
use Rattle.std.proofs.lemmas.Bool.{cases_lt, cases_eq}
use Rattle.std.proofs.lemmas.List.{length_push, get_or_append_left, get_or_push}
use Rattle.std.proofs.lemmas.List.Edits.{length-insert, get_or-insert_below, get_or-insert_at, get_or-insert_above}
use Rattle.std.proofs.lemmas.List.Elements.{Contains-append_cases, Contains-append_right, Contains-append_left, Contains-push, Contains-push_cases}
use Rattle.std.proofs.lemmas.List.Kept.{AllPairs-from_increasing}
use Rattle.std.proofs.lemmas.List.Sorted.{IsPermutation-insert, IsPermutation-sym, Contains-permutation}

pub rising_nil : IsStrictlyIncreasing []
rising_nil k lt = absurd (omega arith)

pub rising_push : (xs : List ℕ) (y : ℕ) → IsStrictlyIncreasing xs → All (λ x. x < y) xs → IsStrictlyIncreasing (xs ++ y ∷ [])
rising_push xs y r a k lt =
    let n = length_push xs y in
    let l : k < length xs = omega (arith, n, lt) in
    let here = get_or_append_left xs (y ∷ []) 0 k l in
    elim (cases_lt (k + 1) (length xs)) [
      | inl more ↦ (let there = get_or_append_left xs (y ∷ []) 0 (k + 1) more in let b = r k more in omega (arith, here, there, b))
      | inr end ↦ (let there = get_or_push xs y 0 (k + 1) (omega (arith, l, end)) in let b = a k 0 l in omega (arith, here, there, b))
    ]

pub rising_insert : (xs : List ℕ) (i y : ℕ) → IsStrictlyIncreasing xs → i ≤ length xs → ((k : ℕ) → k < i → get_or xs k 0 < y) → ((k : ℕ) → i ≤ k → k < length xs → y < get_or xs k 0)
    → IsStrictlyIncreasing (insert xs i y)
rising_insert xs i y r le below above k lt =
    let n = length-insert xs i y le in
    elim (cases_lt (k + 1) i) [
      | inl l ↦
          (let a = get_or-insert_below xs i y 0 k (omega (arith, l)) le in
          let b = get_or-insert_below xs i y 0 (k + 1) l le in
          let d = r k (omega (arith, l, le)) in
          omega (arith, a, b, d))
      | inr g ↦ elim (cases_eq (k + 1) i) [
        | inl e ↦
            (let P : ℕ → Type 0 = λ j. get_or (insert xs i y) j 0 ≡ y in
            let a = get_or-insert_below xs i y 0 k (omega (arith, e)) le in
            let b = subst P (sym e) (get_or-insert_at xs i y 0 le) in
            let d = below k (omega (arith, e)) in
            omega (arith, a, b, d))
        | inr o ↦
            (let ge : i ≤ k = (let u : k + 1 ≡ i → ⊥ = o in omega (arith, g, u)) in
            let b = get_or-insert_above xs i y 0 k ge le in
            let l : k < length xs = omega (arith, n, lt) in
            elim (cases_eq k i) [
              | inl e ↦
                  (let P : ℕ → Type 0 = λ j. get_or (insert xs i y) j 0 ≡ y in
                  let a = subst P (sym e) (get_or-insert_at xs i y 0 le) in
                  let d = above k ge l in
                  omega (arith, a, b, d))
              | inr p ↦
                  (let some : k ≡ (k - 1) + 1 = (let u : k ≡ i → ⊥ = p in omega (arith, ge, u)) in
                  let first : i ≤ k - 1 = (let u : k ≡ i → ⊥ = p in omega (arith, ge, u)) in
                  let P : ℕ → Type 0 = λ j. get_or (insert xs i y) j 0 ≡ get_or xs (k - 1) 0 in
                  let a = subst P (sym some) (get_or-insert_above xs i y 0 (k - 1) first le) in
                  let Q : ℕ → Type 0 = λ j. get_or xs (k - 1) 0 < get_or xs j 0 in
                  let d = subst Q (sym some) (r (k - 1) (omega (arith, some, l))) in
                  omega (arith, a, b, d))
            ])
      ]
    ]

pub inserted : (xs : List ℕ) (i y : ℕ) → Contains (insert xs i y) y
inserted xs i y = Contains-permutation (y ∷ xs) (insert xs i y) y (IsPermutation-insert xs i y) (Contains-append_left (y ∷ []) xs y (Contains-push [] y))

pub kept_by_insert : (xs : List ℕ) (i y t : ℕ) → Contains xs t → Contains (insert xs i y) t
kept_by_insert xs i y t c = Contains-permutation (y ∷ xs) (insert xs i y) t (IsPermutation-insert xs i y) (Contains-append_right (y ∷ []) xs t c)

pub only_insert : (xs : List ℕ) (i y t : ℕ) → Contains (insert xs i y) t → Contains xs t ⊎ (t ≡ y)
only_insert xs i y t c =
    let d : Contains (y ∷ xs) t = Contains-permutation (insert xs i y) (y ∷ xs) t (IsPermutation-sym (y ∷ xs) (insert xs i y) (IsPermutation-insert xs i y)) c in
    elim (Contains-append_cases (y ∷ []) xs t d) [
      | inl a ↦ elim (Contains-push_cases [] y t a) [ inl b ↦ absurd (omega (arith, b.1)) | inr e ↦ inr (sym e) ]
      | inr b ↦ inl b
    ]

-- of rising numbers, that at a place is no smaller than the place
rising_above : (xs : List ℕ) → IsStrictlyIncreasing xs → (k : ℕ) → k < length xs → k ≤ get_or xs k 0
rising_above xs r zero lt = omega arith
rising_above xs r (suc k) lt =
    let a = rising_above xs r k (omega (arith, lt)) in
    let P : ℕ → Type 0 = λ j. get_or xs k 0 < get_or xs j 0 in
    let e : k + 1 ≡ suc k = omega arith in
    let b = subst P e (r k (omega (arith, lt))) in
    omega (arith, a, b)

-- so there are no more of them than numbers below their bound
pub rising_short : (bound : ℕ) (xs : List ℕ) → IsStrictlyIncreasing xs → All (λ x. x < bound) xs → length xs ≤ bound
rising_short bound xs r a = elim (cases_lt bound (length xs)) [
  | inl l ↦ absurd (let b = rising_above xs r bound l in let d = a bound 0 l in omega (arith, b, d))
  | inr g ↦ g
]

pub rising_ordered : (xs : List ℕ) → IsStrictlyIncreasing xs → (i j : ℕ) → i ≤ j → j < length xs → get_or xs i 0 ≤ get_or xs j 0
rising_ordered xs r i j le lt = elim (cases_eq i j) [
  | inl e ↦ (let P : ℕ → Type 0 = λ k. get_or xs i 0 ≤ get_or xs k 0 in subst P e (omega arith))
  | inr o ↦ (let u : i ≡ j → ⊥ = o in let b = AllPairs-from_increasing xs r i j 0 (omega (arith, u, le)) lt in omega (arith, b))
]
