-- Lists to which numbers are added, step by step.
use Rattle.std.proofs.Common.{◌≡◌, ◌↔◌, ◌⊎◌, ℕ, ◌+◌, ◌<◌, ◌≤◌, inl, inr, sym, subst, refl, List, length, take, get_or}
use Rattle.std.proofs.Common.{arith}
use Rattle.std.specs.Prelude.{Contains}
use Rattle.std.proofs.lemmas.List.{take_all}
use Rattle.open_choices.specs.reading.Left.{AddsTo, IsOfEach}
use Rattle.open_choices.proofs.ChoiceLists.{either, front_more, front_none}

module _ {C : Type 0} (Before Here : C → Type 0) where
  pub added_nothing : (xs : List C) → ((c : C) → Here c → ⊥) → AddsTo xs xs Here
  added_nothing xs none c = (λ h. inl h, λ x. either (λ h. h) (λ i. absurd (none c i)) x)

  pub added_as : (xs ys : List C) → ((c : C) → Before c ↔ Here c) → AddsTo xs ys Before → AddsTo xs ys Here
  added_as xs ys same adds c = (
    λ h. either (λ o. inl o) (λ b. inr ((same c).0 b)) ((adds c).0 h),
    λ x. (adds c).1 (either (λ o. inl o) (λ i. inr ((same c).1 i)) x),
  )

  pub added_both : (xs ys zs : List C) → AddsTo xs ys Before → AddsTo ys zs Here
      → AddsTo xs zs (λ c. Before c ⊎ Here c)
  added_both xs ys zs first second c = (
    λ h. either (λ o. either (λ i. inl i) (λ b. inr (inl b)) ((first c).0 o)) (λ n. inr (inr n)) ((second c).0 h),
    λ x. (second c).1 (either (λ o. inl ((first c).1 (inl o)))
        (λ e. either (λ b. inl ((first c).1 (inr b))) (λ n. inr n) e) x),
  )

-- with what is added is what is so far
pub added_more : {C : Type 0} (Before Here So : C → Type 0) (xs ys zs : List C)
    → ((c : C) → (Before c ⊎ Here c) ↔ So c) → AddsTo xs ys Before → AddsTo ys zs Here → AddsTo xs zs So
added_more {C} Before Here So xs ys zs same first second =
    added_as (λ c. Before c ⊎ Here c) So xs zs same (added_both Before Here xs ys zs first second)

module _ {X C : Type 0} (Opens : X → C → Type 0) (xs : List X) where
  pub some_none : (c : C) → IsOfEach Opens (take 0 xs) c → ⊥
  some_none c h = front_none xs h.one h.has

  pub some_more : (i : ℕ) (d : X) → i < length xs → (c : C)
      → (IsOfEach Opens (take i xs) c ⊎ Opens (get_or xs i d) c) ↔ IsOfEach Opens (take (i + 1) xs) c
  some_more i d lt c = (
    λ x. elim x [
      | inl before ↦ record {
        one = before.one;
        has = (front_more xs i d lt before.one).1 (inl before.has);
        opens = before.opens;
      }
      | inr here ↦ record {
        one = get_or xs i d;
        has = (front_more xs i d lt (get_or xs i d)).1 (inr refl);
        opens = here;
      }
    ],
    λ h. elim ((front_more xs i d lt h.one).0 h.has) [
      | inl before ↦ inl (record { one = h.one; has = before; opens = h.opens })
      | inr same ↦ inr (subst (λ x. Opens x c) (sym same) h.opens)
    ],
  )

  -- one more element of a list
  pub added_some : (old now new : List C) (i : ℕ) (x : X) → i < length xs → x ≡ get_or xs i x
      → AddsTo old now (IsOfEach Opens (take i xs)) → AddsTo now new (Opens x)
      → AddsTo old new (IsOfEach Opens (take (i + 1) xs))
  added_some old now new i x lt is before here =
      added_more (IsOfEach Opens (take i xs)) (Opens x) (IsOfEach Opens (take (i + 1) xs)) old now new
      (λ c. let more = some_more i x lt c in (
        λ h. more.0 (either (λ b. inl b) (λ o. inr (subst (λ z. Opens z c) is o)) h),
        λ h. either (λ b. inl b) (λ o. inr (subst (λ z. Opens z c) (sym is) o)) (more.1 h),
      )) before here

  -- the whole list
  pub added_whole : (old new : List C) (i : ℕ) → length xs ≤ i
      → AddsTo old new (IsOfEach Opens (take i xs)) → AddsTo old new (IsOfEach Opens xs)
  added_whole old new i end h =
      subst (λ ys. AddsTo old new (IsOfEach Opens ys)) (take_all i xs end) h
