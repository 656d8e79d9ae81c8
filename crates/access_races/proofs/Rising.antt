-- Lists that rise.
use Rattle.std.proofs.Common.{◌≡◌, ◌⊎◌, zero, suc, refl, sym, subst, inl, inr, List, [], ◌∷◌, ◌++◌, arith}
use Rattle.std.specs.Prelude.{Contains}
use Rattle.std.proofs.lemmas.List.Elements.{Contains-append_left, Contains-push, Contains-push_cases}
use Rattle.access_races.proofs.Joins.{either}
use Rattle.access_races.specs.Rising.{AreRising}

module _ {X : Type 0} where
  -- ## Membership

  pub none : (x : X) → Contains [] x → ⊥
  none x (k, lt, e) = absurd (omega (arith, lt))

  pub first : (x : X) (xs : List X) → Contains (x ∷ xs) x
  first x xs = (zero, omega arith, refl)

  pub later : (x y : X) (xs : List X) → Contains xs y → Contains (x ∷ xs) y
  later x y xs (k, lt, e) = (suc k, omega (arith, lt), e)

  pub cases : (x y : X) (xs : List X) → Contains (x ∷ xs) y → (x ≡ y) ⊎ Contains xs y
  cases x y xs (zero, lt, e) = inl e
  cases x y xs (suc k, lt, e) = inr (k, omega (arith, lt), e)

  pub only : (x y : X) → Contains (x ∷ []) y → x ≡ y
  only x y h = either (λ e. e) (λ more. absurd (none y more)) (cases x y [] h)

  -- ## One more

  module _ (Before : X → X → Type 0) where
    pub rising_push : (xs : List X) (y : X) → AreRising Before xs → ((x : X) → Contains xs x → Before x y)
        → AreRising Before (xs ++ y ∷ [])
    rising_push [] y r all = ((λ z h. absurd (none z h)), tt)
    rising_push (x ∷ xs) y r all = (
      λ z h. either (λ o. r.0 z o) (λ e. subst (Before x) e (all x (first x xs))) (Contains-push_cases xs y z h),
      rising_push xs y r.1 (λ z h. all z (later x z xs h)),
    )

    pub rising_front : (xs : List X) (y : X) → AreRising Before (xs ++ y ∷ []) → AreRising Before xs
    rising_front [] y r = tt
    rising_front (x ∷ xs) y r = (
      λ z h. r.0 z (Contains-append_left xs (y ∷ []) z h),
      rising_front xs y r.1,
    )

    pub rising_last : (xs : List X) (y : X) → AreRising Before (xs ++ y ∷ []) → (x : X) → Contains xs x → Before x y
    rising_last [] y r x h = absurd (none x h)
    rising_last (a ∷ xs) y r x h =
        either (λ e. subst (λ z. Before z y) e (r.0 y (Contains-push xs y)))
        (λ more. rising_last xs y r.1 x more) (cases a x xs h)

    -- ## Equal lists

    module _ (trans : (a b c : X) → Before a b → Before b c → Before a c) (never : (a : X) → Before a a → ⊥) where
      same_first : (a b : X) (one other : List X) → AreRising Before (a ∷ one) → AreRising Before (b ∷ other)
          → Contains (b ∷ other) a → Contains (a ∷ one) b → a ≡ b
      same_first a b one other s t h k =
          either (λ e. sym e)
          (λ above. either (λ e. e)
          (λ below. absurd (never a (trans a b a (s.0 b below) (t.0 a above)))) (cases a b one k))
          (cases b a other h)

      rest_of : (a b x : X) (one other : List X) → a ≡ b → AreRising Before (a ∷ one)
          → ((y : X) → Contains (a ∷ one) y → Contains (b ∷ other) y) → Contains one x → Contains other x
      rest_of a b x one other e s f h =
          let this = s.0 x h in
          either (λ (same : b ≡ x). absurd (never x (subst (λ z. Before z x) same (subst (λ z. Before z x) e this))))
          (λ more. more) (cases b x other (f x (later a x one h)))

      pub equal_lists : (one other : List X) → AreRising Before one → AreRising Before other
          → ((x : X) → Contains one x → Contains other x) → ((x : X) → Contains other x → Contains one x)
          → one ≡ other
      equal_lists [] [] s t f g = refl
      equal_lists [] (b ∷ other) s t f g = absurd (none b (g b (first b other)))
      equal_lists (a ∷ one) [] s t f g = absurd (none a (f a (first a one)))
      equal_lists (a ∷ one) (b ∷ other) s t f g =
          let e = same_first a b one other s t (f a (first a one)) (g b (first b other)) in
          let rest = equal_lists one other s.1 t.1
          (λ x h. rest_of a b x one other e s f h) (λ x h. rest_of b a x other one (sym e) t g h) in
          λ i. e i ∷ rest i
