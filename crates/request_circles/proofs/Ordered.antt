-- The places of the first numbers.
use Rattle.std.proofs.Common.{◌≡◌, ◌↔◌, ◌⊎◌, ℕ, ◌+◌, ◌<◌, sym, subst, ◌∙◌, inl, inr, Bool, List, length, arith}
use Rattle.std.specs.Prelude.{Contains, Result, Ok, Err, IfOk}
use Rattle.std.proofs.lemmas.Bool.{cases_eq}
use Rattle.tm_lattice.specs.declared.memory.NoMemory.{NoMemory}
use Rattle.tm_terms.specs.declared.places.Place.{Place}
use Rattle.request_circles.specs.declared.requests.Request.{Request}
use Rattle.request_circles.specs.reading.Steps.{request_at, IsMarked}
use Rattle.request_circles.specs.reading.Circles.{IsPlaceOf}

pub record IsPlaceBelow (requests : List Request) (numbers : List Bool) (n : ℕ) (place : Place) : Type 0 where
  pub number : ℕ
  pub below : number < n
  pub marked : IsMarked numbers number
  pub is : (let r = request_at requests number in r.place ≡ place)

module _ (requests : List Request) (numbers : List Bool) where
  pub no_place : (q : Place) → IsPlaceBelow requests numbers 0 q → ⊥
  no_place q h = let lt = h.below in omega (arith, lt)

  up : (n : ℕ) (q : Place) → IsPlaceBelow requests numbers n q → IsPlaceBelow requests numbers (n + 1) q
  up n q h = record {
    number = h.number;
    below = let lt = h.below in omega (arith, lt);
    marked = h.marked;
    is = h.is;
  }

  pub place_more : (n : ℕ) (q : Place) → IsMarked numbers n
      → IsPlaceBelow requests numbers (n + 1) q
      ↔ (IsPlaceBelow requests numbers n q ⊎ (let r = request_at requests n in r.place ≡ q))
  place_more n q m = (
    λ h. elim (cases_eq h.number n) [
      | inl e ↦ inr (subst (λ k. let r = request_at requests k in r.place ≡ q) e h.is)
      | inr other ↦ inl (record {
        number = h.number;
        below = let lt = h.below in omega (arith, lt, other);
        marked = h.marked;
        is = h.is;
      })
    ],
    λ h. elim h [ inl o ↦ up n q o | inr e ↦ record { number = n; below = omega arith; marked = m; is = e } ],
  )

  pub place_same : (n : ℕ) (q : Place) → (IsMarked numbers n → ⊥)
      → IsPlaceBelow requests numbers (n + 1) q ↔ IsPlaceBelow requests numbers n q
  place_same n q none = (
    λ h. elim (cases_eq h.number n) [
      | inl e ↦ absurd (none (subst (IsMarked numbers) e h.marked))
      | inr other ↦ record {
        number = h.number;
        below = let lt = h.below in omega (arith, lt, other);
        marked = h.marked;
        is = h.is;
      }
    ],
    λ h. up n q h,
  )

  pub place_all : (q : Place) → IsPlaceBelow requests numbers (length requests) q ↔ IsPlaceOf requests numbers q
  place_all q = (
    λ h. record { number = h.number; within = h.below; marked = h.marked; is = h.is },
    λ h. record { number = h.number; below = h.within; marked = h.marked; is = h.is },
  )

  -- one more is added
  pub place_pushed : (n : ℕ) (q x : Place) (O N : Type 0) → IsMarked numbers n
      → x ≡ (let r = request_at requests n in r.place) → (N ↔ (O ⊎ (q ≡ x)))
      → (O ↔ IsPlaceBelow requests numbers n q) → (N ↔ IsPlaceBelow requests numbers (n + 1) q)
  place_pushed n q x O N m is more h = (
    λ c. (place_more n q m).1 (elim (more.0 c) [ inl o ↦ inl (h.0 o) | inr e ↦ inr (sym is ∙ sym e) ]),
    λ b. more.1 (elim ((place_more n q m).0 b) [ inl o ↦ inl (h.1 o) | inr e ↦ inr (sym e ∙ sym is) ]),
  )

  pub place_left : (n : ℕ) (q : Place) (xs : List Place) → (IsMarked numbers n → ⊥)
      → (Contains xs q ↔ IsPlaceBelow requests numbers n q) → (Contains xs q ↔ IsPlaceBelow requests numbers (n + 1) q)
  place_left n q xs none h = (λ c. (place_same n q none).1 (h.0 c), λ b. h.1 ((place_same n q none).0 b))

  pub place_end : (n : ℕ) (q : Place) (xs : List Place) → n ≡ length requests
      → (Contains xs q ↔ IsPlaceBelow requests numbers n q) → (Contains xs q ↔ IsPlaceOf requests numbers q)
  place_end n q xs e h =
      let all : Contains xs q ↔ IsPlaceBelow requests numbers (length requests) q =
      subst (λ m. Contains xs q ↔ IsPlaceBelow requests numbers m q) e h in
      (λ c. (place_all q).0 (all.0 c), λ p. all.1 ((place_all q).1 p))

-- two facts of an answer
pub both_facts : {A : Type 0} (P Q R : A → Type 0) → ((x : A) → P x → Q x → R x) → (r : Result A NoMemory)
    → IfOk r P → IfOk r Q → IfOk r R
both_facts P Q R f (Ok x) p q = f x p q
both_facts P Q R f (Err e) p q = p
