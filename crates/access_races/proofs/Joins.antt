-- What is contained after one more step.
use Rattle.std.proofs.Common.{◌≡◌, ◌↔◌, ◌⊎◌, ℕ, ◌+◌, ◌<◌, inl, inr, refl, sym, subst, List, [], ◌∷◌, ◌++◌, length}
use Rattle.std.proofs.Common.{take, get_or}
use Rattle.std.specs.Prelude.{Contains}
use Rattle.std.proofs.lemmas.List.{take_more}
use Rattle.std.proofs.lemmas.List.Elements.{Contains-append_left, Contains-push, Contains-push_cases}
use Rattle.access_races.specs.reading.Ways.{HasOne}

pub either : {A B C : Type 0} → (A → C) → (B → C) → A ⊎ B → C
either f g (inl a) = f a
either f g (inr b) = g b

-- what is new is old or here; what is old was there first or before; and before and here are so far
pub joined : {N O I F H S : Type 0} → (N ↔ (O ⊎ H)) → (O ↔ (I ⊎ F)) → (S ↔ (F ⊎ H)) → (N ↔ (I ⊎ S))
joined {N} {O} {I} {F} {H} {S} step before so_far = (
  λ n. either (λ o. either (λ i. inl i) (λ f. inr (so_far.1 (inl f))) (before.0 o)) (λ h. inr (so_far.1 (inr h)))
      (step.0 n),
  λ x. either (λ i. step.1 (inl (before.1 (inl i))))
      (λ s. either (λ f. step.1 (inl (before.1 (inr f)))) (λ h. step.1 (inr h)) (so_far.0 s)) x,
)

-- nothing more
pub unchanged : {O I F S : Type 0} → (O ↔ (I ⊎ F)) → (S ↔ F) → (O ↔ (I ⊎ S))
unchanged {O} {I} {F} {S} before same = (
  λ o. either (λ i. inl i) (λ f. inr (same.1 f)) (before.0 o),
  λ x. either (λ i. before.1 (inl i)) (λ s. before.1 (inr (same.0 s))) x,
)

-- what is new is old or here, and what is so far was before or is here
pub grown : {N O F H S : Type 0} → (N ↔ (O ⊎ H)) → (O ↔ F) → (S ↔ (F ⊎ H)) → (N ↔ S)
grown {N} {O} {F} {H} {S} step before so_far = (
  λ n. so_far.1 (either (λ o. inl (before.0 o)) (λ h. inr h) (step.0 n)),
  λ s. step.1 (either (λ f. inl (before.1 f)) (λ h. inr h) (so_far.0 s)),
)

-- the front of a list with one more element
pub front_more : {X : Type 0} (xs : List X) (i : ℕ) (d : X) → i < length xs → (x : X)
    → Contains (take (i + 1) xs) x ↔ (Contains (take i xs) x ⊎ (get_or xs i d ≡ x))
front_more {X} xs i d lt x =
    let more : take (i + 1) xs ≡ take i xs ++ get_or xs i d ∷ [] = take_more xs i d lt in (
      λ h. Contains-push_cases (take i xs) (get_or xs i d) x (subst (λ ys. Contains ys x) more h),
      λ h. subst (λ ys. Contains ys x) (sym more)
          (either (λ before. Contains-append_left (take i xs) (get_or xs i d ∷ []) x before)
          (λ here. subst (λ z. Contains (take i xs ++ get_or xs i d ∷ []) z) here
          (Contains-push (take i xs) (get_or xs i d))) h),
    )

-- a list with one more element behind it
pub pushed : {X : Type 0} (us vs : List X) (x : X) → vs ≡ us ++ x ∷ [] → (w : X)
    → Contains vs w ↔ (Contains us w ⊎ (w ≡ x))
pushed us vs x is w = (
  λ h. either (λ o. inl o) (λ e. inr (sym e)) (Contains-push_cases us x w (subst (λ ws. Contains ws w) is h)),
  λ h. subst (λ ws. Contains ws w) (sym is) (either (λ o. Contains-append_left us (x ∷ []) w o)
      (λ e. subst (Contains (us ++ x ∷ [])) (sym e) (Contains-push us x)) h),
)

-- one of the front with one more is so
pub one_more : {X : Type 0} (Is : X → Type 0) (xs : List X) (i : ℕ) (d : X) → i < length xs
    → HasOne Is (take (i + 1) xs) ↔ (HasOne Is (take i xs) ⊎ Is (get_or xs i d))
one_more {X} Is xs i d lt = (
  λ h. either (λ before. inl (record { one = h.one; has = before; is = h.is }))
      (λ same. inr (subst Is (sym same) h.is)) ((front_more xs i d lt h.one).0 h.has),
  λ h. either (λ (o : HasOne Is (take i xs)). record {
    one = o.one;
    has = (front_more xs i d lt o.one).1 (inl o.has);
    is = o.is;
  })
      (λ here. record {
        one = get_or xs i d;
        has = (front_more xs i d lt (get_or xs i d)).1 (inr refl);
        is = here;
      }) h,
)
