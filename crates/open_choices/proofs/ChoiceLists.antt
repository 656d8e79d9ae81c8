-- Lists to which choices are added, step by step.
use Rattle.std.proofs.Common.{◌≡◌, ◌↔◌, ◌⊎◌, ℕ, ◌+◌, ◌<◌, ◌≤◌, inl, inr, sym, subst, refl, List, [], ◌∷◌, ◌++◌, length}
use Rattle.std.proofs.Common.{take, get_or}
use Rattle.std.proofs.Common.{Bool, true, false, IsTrue, arith}
use Rattle.std.specs.Prelude.{Contains}
use Rattle.std.proofs.lemmas.Bool.{cases_eq, false≢true}
use Rattle.std.proofs.lemmas.List.{take_more, take_all}
use Rattle.std.proofs.lemmas.List.Elements.{Contains-append_left, Contains-push, Contains-push_cases}
use Rattle.tm_terms.specs.declared.places.Place.{Place}
use Rattle.text_choices.specs.declared.kinds.Kind.{Kind}
use Rattle.text_choices.specs.declared.kinds.Choice.{Choice}
use Rattle.text_choices.specs.Choices.{Adds}
use Rattle.open_choices.specs.reading.Found.{IsNew, IsOfSome, IsOfNumber}

pub either : {A B C : Type 0} → (A → C) → (B → C) → A ⊎ B → C
either f g (inl a) = f a
either f g (inr b) = g b

-- the front of a list with one more element
pub front_more : {X : Type 0} (xs : List X) (i : ℕ) (d : X) → i < length xs → (x : X)
    → Contains (take (i + 1) xs) x ↔ (Contains (take i xs) x ⊎ (get_or xs i d ≡ x))
front_more {X} xs i d lt x =
    let more : take (i + 1) xs ≡ take i xs ++ get_or xs i d ∷ [] = take_more xs i d lt in (
      λ h. Contains-push_cases (take i xs) (get_or xs i d) x (subst (λ ys. Contains ys x) more h),
      λ h. subst (λ ys. Contains ys x) (sym more)
          (either (λ before. Contains-append_left (take i xs) (get_or xs i d ∷ []) x before)
          (λ here. subst (λ z. Contains (take i xs ++ get_or xs i d ∷ []) z) here
          (Contains-push (take i xs) (get_or xs i d))) h),
    )

-- nothing is in the front of no elements
pub front_none : {X : Type 0} (xs : List X) (x : X) → Contains (take 0 xs) x → ⊥
front_none {X} xs x (k, lt, e) = absurd (omega (arith, lt))

module _ (Before Here : Choice → Type 0) where
  pub added_nothing : (xs : List Choice) → ((c : Choice) → Here c → ⊥) → Adds xs xs Here
  added_nothing xs none c = (λ h. inl h, λ x. either (λ h. h) (λ i. absurd (none c i)) x)

  pub added_as : (xs ys : List Choice) → ((c : Choice) → Before c ↔ Here c) → Adds xs ys Before → Adds xs ys Here
  added_as xs ys same adds c = (
    λ h. either (λ o. inl o) (λ b. inr ((same c).0 b)) ((adds c).0 h),
    λ x. (adds c).1 (either (λ o. inl o) (λ i. inr ((same c).1 i)) x),
  )

  pub added_both : (xs ys zs : List Choice) → Adds xs ys Before → Adds ys zs Here
      → Adds xs zs (λ c. Before c ⊎ Here c)
  added_both xs ys zs first second c = (
    λ h. either (λ o. either (λ i. inl i) (λ b. inr (inl b)) ((first c).0 o)) (λ n. inr (inr n)) ((second c).0 h),
    λ x. (second c).1 (either (λ o. inl ((first c).1 (inl o)))
        (λ e. either (λ b. inl ((first c).1 (inr b))) (λ n. inr n) e) x),
  )

-- with what is added is what is so far
pub added_more : (Before Here So : Choice → Type 0) (xs ys zs : List Choice)
    → ((c : Choice) → (Before c ⊎ Here c) ↔ So c) → Adds xs ys Before → Adds ys zs Here → Adds xs zs So
added_more Before Here So xs ys zs same first second =
    added_as (λ c. Before c ⊎ Here c) So xs zs same (added_both Before Here xs ys zs first second)

module _ {X : Type 0} (Opens : X → Choice → Type 0) (xs : List X) where
  pub some_none : (c : Choice) → IsOfSome Opens (take 0 xs) c → ⊥
  some_none c h = front_none xs h.one h.has

  pub some_more : (i : ℕ) (d : X) → i < length xs → (c : Choice)
      → (IsOfSome Opens (take i xs) c ⊎ Opens (get_or xs i d) c) ↔ IsOfSome Opens (take (i + 1) xs) c
  some_more i d lt c = (
    λ x. elim x [
      | inl before ↦ record {
        one = before.one;
        has = (front_more xs i d lt before.one).1 (inl before.has);
        opens = before.opens;
      }
      | inr here ↦ record {
        one = get_or xs i d;
        has = (front_more xs i d lt (get_or xs i d)).1 (inr refl);
        opens = here;
      }
    ],
    λ h. elim ((front_more xs i d lt h.one).0 h.has) [
      | inl before ↦ inl (record { one = h.one; has = before; opens = h.opens })
      | inr same ↦ inr (subst (λ x. Opens x c) (sym same) h.opens)
    ],
  )

  -- one more element of a list
  pub added_some : (old now new : List Choice) (i : ℕ) (x : X) → i < length xs → x ≡ get_or xs i x
      → Adds old now (IsOfSome Opens (take i xs)) → Adds now new (Opens x)
      → Adds old new (IsOfSome Opens (take (i + 1) xs))
  added_some old now new i x lt is before here =
      added_more (IsOfSome Opens (take i xs)) (Opens x) (IsOfSome Opens (take (i + 1) xs)) old now new
      (λ c. let more = some_more i x lt c in (
        λ h. more.0 (either (λ b. inl b) (λ o. inr (subst (λ z. Opens z c) is o)) h),
        λ h. either (λ b. inl b) (λ o. inr (subst (λ z. Opens z c) (sym is) o)) (more.1 h),
      )) before here

  -- the whole list
  pub added_whole : (old new : List Choice) (i : ℕ) → length xs ≤ i
      → Adds old new (IsOfSome Opens (take i xs)) → Adds old new (IsOfSome Opens xs)
  added_whole old new i end h =
      subst (λ ys. Adds old new (IsOfSome Opens ys)) (take_all i xs end) h

module _ (Opens : ℕ → Choice → Type 0) where
  pub number_none : (c : Choice) → IsOfNumber Opens 0 c → ⊥
  number_none c h = absurd (let lt = h.below in omega (arith, lt))

  below_more : (n k : ℕ) → k < n + 1 → (k < n) ⊎ (k ≡ n)
  below_more n k h = elim (cases_eq k n) [ inl same ↦ inr same | inr differ ↦ inl (omega (arith, h, differ)) ]

  pub number_more : (n : ℕ) (c : Choice) → (IsOfNumber Opens n c ⊎ Opens n c) ↔ IsOfNumber Opens (n + 1) c
  number_more n c = (
    λ x. elim x [
      | inl before ↦ record {
        number = before.number;
        below = (let lt = before.below in omega (arith, lt));
        opens = before.opens;
      }
      | inr here ↦ record { number = n; below = omega arith; opens = here }
    ],
    λ h. elim (below_more n h.number h.below) [
      | inl lt ↦ inl (record { number = h.number; below = lt; opens = h.opens })
      | inr same ↦ inr (subst (λ k. Opens k c) same h.opens)
    ],
  )

  -- one more number
  pub added_number : (old now new : List Choice) (n : ℕ) → Adds old now (IsOfNumber Opens n)
      → Adds now new (Opens n) → Adds old new (IsOfNumber Opens (n + 1))
  added_number old now new n before here =
      added_more (IsOfNumber Opens n) (Opens n) (IsOfNumber Opens (n + 1)) old now new (number_more n) before here

-- a choice is added where a test holds
pub added_where : (kind : Kind) (place : Place) (is : Bool) (Holds : Type 0) (xs ys : List Choice)
    → (IsTrue is ↔ Holds) → Adds xs ys (IsNew kind place (is ≡ true)) → Adds xs ys (IsNew kind place Holds)
added_where kind place is Holds xs ys same adds =
    added_as (IsNew kind place (is ≡ true)) (IsNew kind place Holds) xs ys
    (λ c. (λ h. (same.0 h.0, h.1), λ h. (same.1 h.0, h.1))) adds

-- of this kind, at this place
pub added_so : (kind kind' : Kind) (place place' : Place) → kind ≡ kind' → place ≡ place' → (is : Bool)
    (Holds : Type 0) (xs ys : List Choice) → (IsTrue is ↔ Holds) → Adds xs ys (IsNew kind place (is ≡ true))
    → Adds xs ys (IsNew kind' place' Holds)
added_so kind kind' place place' kinds places is Holds xs ys same adds =
    subst (λ k. Adds xs ys (IsNew k place' Holds)) kinds
    (subst (λ p. Adds xs ys (IsNew kind p Holds)) places (added_where kind place is Holds xs ys same adds))
