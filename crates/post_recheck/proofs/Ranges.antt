-- What is collected for the numbers of a range, in order.
use Rattle.std.proofs.Common.{◌≡◌, ℕ, zero, suc, ◌+◌, ◌<◌, List, [], ◌∷◌, length, get_or, refl}
use Rattle.std.proofs.Common.{ap, subst, arith}
use Rattle.std.specs.List.{AllZip, range_with_len}

module _ {X : Type 0} (R : ℕ → X → Type 0) where
  -- as many as there are numbers
  pub as_many : (a n : ℕ) (ys : List X) → AllZip R (range_with_len a n) ys → length ys ≡ n
  as_many a zero [] h = refl
  as_many a zero (y ∷ ys) h = absurd h
  as_many a (suc n) [] h = absurd h
  as_many a (suc n) (y ∷ ys) h = ap suc (as_many (a + 1) n ys h.1)

  -- each is that of its number
  pub each_of : (a n : ℕ) (ys : List X) → AllZip R (range_with_len a n) ys → (k : ℕ) (none : X) → k < length ys
      → R (a + k) (get_or ys k none)
  each_of a zero [] h k none lt = absurd (omega (arith, lt))
  each_of a zero (y ∷ ys) h k none lt = absurd h
  each_of a (suc n) [] h k none lt = absurd h
  each_of a (suc n) (y ∷ ys) h zero none lt = subst (λ i. R i y) (let e : a ≡ a + 0 = omega arith in e) h.0
  each_of a (suc n) (y ∷ ys) h (suc k) none lt =
      subst (λ i. R i (get_or ys k none)) (let e : a + 1 + k ≡ a + suc k = omega arith in e)
      (each_of (a + 1) n ys h.1 k none (omega (arith, lt)))
