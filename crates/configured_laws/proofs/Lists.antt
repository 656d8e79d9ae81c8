-- Lists, their first elements, and that lists in order that have the same elements are one list.
use Rattle.std.specs.Prelude.{◌≡◌, ◌⊎◌, ℕ, zero, suc, ◌<◌, ℤ, ◌<ℤ◌, List, [], ◌∷◌, All, AllPairs, Contains}
use Rattle.std.specs.List.Sorted.{IsStrictlyIncreasing}
use Rattle.std.proofs.Common.{refl, sym, ap₂, subst, ◌∙◌, inl, inr, arith}
use Rattle.std.proofs.lemmas.Int.{ints}
use Rattle.std.proofs.lemmas.List.Elements.{Contains-get_or}
use Rattle.std.proofs.lemmas.List.Kept.{AllPairs-from_increasing}

module _ {X : Type 0} where
  -- what stands in a list is its first element or stands behind it
  pub first_or : (x : X) (xs : List X) (z : X) → Contains (x ∷ xs) z → (x ≡ z) ⊎ Contains xs z
  first_or x xs z (zero, lt, e) = inl e
  first_or x xs z (suc k, lt, e) = inr (k, omega (arith, lt), e)

  pub behind : (x : X) (xs : List X) (z : X) → Contains xs z → Contains (x ∷ xs) z
  behind x xs z (k, lt, e) = (suc k, omega (arith, lt), e)

  pub first : (x : X) (xs : List X) → Contains (x ∷ xs) x
  first x xs = (0, omega arith, refl)

  pub none_in : (z : X) → Contains [] z → ⊥
  none_in z (k, lt, e) = omega (arith, lt)

  pub all_of : (P : X → Type 0) (xs : List X) → ((z : X) → Contains xs z → P z) → All P xs
  all_of P xs h k d lt = h _ (Contains-get_or xs k d lt)

module _ {X : Type 0} (R : X → X → Type 0) where
  pub after : (x : X) (xs : List X) (z : X) → AllPairs R (x ∷ xs) → Contains xs z → R x z
  after x xs z pairs (k, lt, e) = subst (R x) e (pairs 0 (suc k) z (omega arith) (omega (arith, lt)))

  pub rest : (x : X) (xs : List X) → AllPairs R (x ∷ xs) → AllPairs R xs
  rest x xs pairs i j d lt within = pairs (suc i) (suc j) d (omega (arith, lt)) (omega (arith, within))

module _ {X : Type 0} (R : X → X → Type 0) (one_way : (x y : X) → R x y → R y x → ⊥) where
  same_first : (x y : X) (xs ys : List X) → AllPairs R (x ∷ xs) → AllPairs R (y ∷ ys) → (y ≡ x) ⊎ Contains ys x
      → (x ≡ y) ⊎ Contains xs y → x ≡ y
  same_first x y xs ys h k (inl e) other = sym e
  same_first x y xs ys h k (inr c) (inl e) = e
  same_first x y xs ys h k (inr c) (inr d) = absurd (one_way x y (after R x xs y h d) (after R y ys x k c))

  -- what stands behind the first element of the one stands behind that of the other
  goes_on : (x y z : X) (xs ys : List X) → x ≡ y → AllPairs R (x ∷ xs) → Contains xs z → (y ≡ z) ⊎ Contains ys z
      → Contains ys z
  goes_on x y z xs ys e h c (inl same) =
      let own : R x z = after R x xs z h c in
      let there : R x x = subst (R x) (sym same ∙ sym e) own in
      absurd (one_way x x there there)
  goes_on x y z xs ys e h c (inr d) = d

  pub lists_are_one : (xs ys : List X) → AllPairs R xs → AllPairs R ys → ((z : X) → Contains xs z → Contains ys z)
      → ((z : X) → Contains ys z → Contains xs z) → xs ≡ ys
  lists_are_one [] [] h k to from = refl
  lists_are_one [] (y ∷ ys) h k to from = absurd (let c = from y (first y ys) in omega (arith, c.1))
  lists_are_one (x ∷ xs) [] h k to from = absurd (let c = to x (first x xs) in omega (arith, c.1))
  lists_are_one (x ∷ xs) (y ∷ ys) h k to from =
      let same : x ≡ y =
      same_first x y xs ys h k (first_or y ys x (to x (first x xs))) (first_or x xs y (from y (first y ys))) in
      ap₂ (λ (a : X) (as' : List X). a ∷ as') same
      (lists_are_one xs ys (rest R x xs h) (rest R y ys k)
      (λ z c. goes_on x y z xs ys same h c (first_or y ys z (to z (behind x xs z c))))
      (λ z c. goes_on y x z ys xs (sym same) k c (first_or x xs z (from z (behind y ys z c)))))

-- ## Rising numbers

not_both_less : (m n : ℕ) → m < n → n < m → ⊥
not_both_less m n h k = omega (arith, h, k)

pub rising_pairs : (xs : List ℕ) → IsStrictlyIncreasing xs → AllPairs (λ m n. m < n) xs
rising_pairs xs rising = AllPairs-from_increasing xs rising

pub rising_are_one : (xs ys : List ℕ) → IsStrictlyIncreasing xs → IsStrictlyIncreasing ys
    → ((z : ℕ) → Contains xs z → Contains ys z) → ((z : ℕ) → Contains ys z → Contains xs z) → xs ≡ ys
rising_are_one xs ys h k to from =
    lists_are_one (λ m n. m < n) not_both_less xs ys (rising_pairs xs h) (rising_pairs ys k) to from

-- ## Ascending integers

not_both_below : (x y : ℤ) → x <ℤ y → y <ℤ x → ⊥
not_both_below x y h k = omega (arith, ints, h, k)

pub ascending_are_one : (xs ys : List ℤ) → AllPairs (λ x y. x <ℤ y) xs → AllPairs (λ x y. x <ℤ y) ys
    → ((z : ℤ) → Contains xs z → Contains ys z) → ((z : ℤ) → Contains ys z → Contains xs z) → xs ≡ ys
ascending_are_one xs ys h k to from = lists_are_one (λ x y. x <ℤ y) not_both_below xs ys h k to from
