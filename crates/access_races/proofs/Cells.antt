-- Lists in a list after a change of one of them.
use Rattle.std.proofs.Common.{◌≡◌, ◌≢◌, ◌↔◌, ◌⊎◌, ℕ, ◌<◌, refl, ap, sym, subst, ◌∙◌, inl, inr, List, [], ◌∷◌, length}
use Rattle.std.proofs.Common.{◌++◌, zero, suc, map, get_or}
use Rattle.std.specs.Prelude.{Contains, slice_set}
use Rattle.std.specs.declared.vec.Vec.{Vec}
use native.Mathlib.Decide.{ℕ_discrete}
use Rattle.std.proofs.lemmas.List.{length-map, get_or-map, map-set, get_or-set_same, get_or-set_other}
use Rattle.access_races.specs.reading.Ways.{list_at}
use Rattle.access_races.proofs.Joins.{either}

module _ {X A : Type 0} (before old : List (Vec X A)) (k : ℕ) (lt : k < length old)
    (same : (n : ℕ) → list_at old n ≡ list_at before n) (u v : Vec X A) (is : u ≡ get_or old k u) (x : X)
    (pushed : (w : X) → Contains v.items w ↔ (Contains u.items w ⊎ (w ≡ x))) where
  abbrev Added : ℕ → X → Type 0
  Added n w = Contains (list_at (slice_set old k v) n) w ↔ (Contains (list_at before n) w ⊎ ((n ≡ k) × (w ≡ x)))

  here : list_at (slice_set old k v) k ≡ v.items
  here =
      ap (λ l. get_or l k []) (map-set (λ (list : Vec X A). list.items) old k v)
      ∙ get_or-set_same (map (λ (list : Vec X A). list.items) old) k v.items []
      (subst (λ n. k < n) (sym (length-map old (λ (list : Vec X A). list.items))) lt)

  there : list_at before k ≡ u.items
  there =
      sym (same k)
      ∙ (get_or-map (λ (list : Vec X A). list.items) old k u [] lt ∙ ap (λ (list : Vec X A). list.items) (sym is))

  elsewhere : (n : ℕ) → n ≢ k → list_at (slice_set old k v) n ≡ list_at before n
  elsewhere n ne =
      ap (λ l. get_or l n []) (map-set (λ (list : Vec X A). list.items) old k v)
      ∙ (get_or-set_other (map (λ (list : Vec X A). list.items) old) k n v.items [] ne ∙ same n)

  added_here : (w : X) → Added k w
  added_here w = (
    λ h. either (λ o. inl (subst (λ ws. Contains ws w) (sym there) o)) (λ e. inr (refl, e))
        ((pushed w).0 (subst (λ ws. Contains ws w) here h)),
    λ h. subst (λ ws. Contains ws w) (sym here) ((pushed w).1
        (either (λ o. inl (subst (λ ws. Contains ws w) there o)) (λ e. inr e.1) h)),
  )

  added_elsewhere : (n : ℕ) (w : X) → n ≢ k → Added n w
  added_elsewhere n w ne = (
    λ h. inl (subst (λ ws. Contains ws w) (elsewhere n ne) h),
    λ h. subst (λ ws. Contains ws w) (sym (elsewhere n ne)) (either (λ o. o) (λ e. absurd (ne e.0)) h),
  )

  pub added : (n : ℕ) (w : X) → Added n w
  added n w = by (ℕ_discrete n k)
    where
      by : Dec (n ≡ k) → Added n w
      by (yes e) = subst (λ m. Added m w) (sym e) (added_here w)
      by (no ne) = added_elsewhere n w ne

at_end : {X A : Type 0} (us : List (Vec X A)) (v : Vec X A) → v.items ≡ [] → (n : ℕ)
    → list_at (us ++ v ∷ []) n ≡ list_at us n
at_end [] v e zero = e
at_end [] v e (suc n) = refl
at_end (u ∷ us) v e zero = refl
at_end (u ∷ us) v e (suc n) = at_end us v e n

-- an empty list behind them changes none
pub with_empty : {X A : Type 0} (us vs : List (Vec X A)) (v : Vec X A) → vs ≡ us ++ v ∷ [] → v.items ≡ [] → (n : ℕ)
    → list_at vs n ≡ list_at us n
with_empty us vs v is e n = ap (λ lists. list_at lists n) is ∙ at_end us v e n
