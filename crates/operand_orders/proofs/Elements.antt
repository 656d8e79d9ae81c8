-- Lists with one more element, and lists in lists.
use Rattle.std.proofs.Common.{◌≡◌, ◌↔◌, ◌⊎◌, ℕ, zero, suc, ◌+◌, ◌-◌, ◌<◌, ◌≤◌, refl, ap, sym, subst, ◌∙◌, inl, List, []}
use Rattle.std.proofs.Common.{◌∷◌, length, get_or, take, drop, arith}
use Rattle.std.specs.Prelude.{Contains, IsTrue, true, false}
use Rattle.std.specs.declared.vec.Vec.{Vec}
use borrow.Author.Count.{below_more}
use Rattle.std.proofs.lemmas.Bool.{true≢false}
use Rattle.std.proofs.lemmas.List.{get_or_default, get_or-take, get_or-drop, length-take-le, length-drop}
use Rattle.access_races.specs.reading.Ways.{list_at, HasOne}
use Rattle.access_races.proofs.Joins.{either}

-- ## One more

pub none : {X : Type 0} (x : X) → Contains [] x → ⊥
none x (k, lt, e) = absurd (omega (arith, lt))

pub has_at : {X : Type 0} (xs : List X) (i : ℕ) (d : X) → i < length xs → Contains xs (get_or xs i d)
has_at xs i d lt = (i, lt, get_or_default xs i (get_or xs i d) d lt)

pub has_none : {X : Type 0} (Is : X → Type 0) → HasOne Is [] → ⊥
has_none Is h = none h.one h.has

-- one that is found, and none among those so far
pub found_one : {X : Type 0} (Is : X → Type 0) (xs : List X) (i : ℕ) (d : X) → i < length xs → Is (get_or xs i d)
    → IsTrue true ↔ HasOne Is xs
found_one Is xs i d lt here = (
  λ _. record { one = get_or xs i d; has = has_at xs i d lt; is = here },
  λ _. refl,
)

pub none_more : {X : Type 0} (Is : X → Type 0) (xs : List X) (i : ℕ) (d : X) → i < length xs
    → (Is (get_or xs i d) → ⊥) → ((k : ℕ) (x : X) → k < i → get_or xs k x ≡ x → Is x → ⊥)
    → (k : ℕ) (x : X) → k < i + 1 → get_or xs k x ≡ x → Is x → ⊥
none_more {X} Is xs i d lt here before k x le =
    let None : ℕ → Type 0 = λ n. (y : X) → get_or xs n y ≡ y → Is y → ⊥ in
    let now : None i = λ y e is. here (subst Is (sym e ∙ get_or_default xs i y d lt) is) in
    below_more None i (λ n below y. before n y below) now k le x

pub none_found : {X : Type 0} (Is : X → Type 0) (xs : List X) (i : ℕ) → length xs ≤ i
    → ((k : ℕ) (x : X) → k < i → get_or xs k x ≡ x → Is x → ⊥) → IsTrue false ↔ HasOne Is xs
none_found Is xs i le none = (
  λ t. absurd (true≢false (sym t)),
  λ h. absurd (none h.has.0 h.one (let lt = h.has.1 in omega (arith, lt, le)) h.has.2 h.is),
)

-- ## A part of a list

pub record IsInPart {X : Type 0} (xs : List X) (from to : ℕ) (x : X) : Type 0 where
  pub at : ℕ
  pub low : from ≤ at
  pub high : at < to
  pub within : at < length xs
  pub is : get_or xs at x ≡ x

pub in_part : {X : Type 0} (xs : List X) (from more : ℕ) → from + more ≤ length xs → (x : X)
    → Contains (take more (drop from xs)) x ↔ IsInPart xs from (from + more) x
in_part {X} xs from more le x = (
  λ (k, lt, e). record {
    at = from + k;
    low = omega arith;
    high = (let n = count in omega (arith, lt, n));
    within = (let n = count in omega (arith, lt, n, le));
    is = sym (read k (let n = count in omega (arith, lt, n))) ∙ e;
  },
  λ h.
      let low = h.low in
      let high = h.high in
      let there : from + (h.at - from) ≡ h.at = omega (arith, low) in
      let below : h.at - from < more = omega (arith, low, high) in (
        h.at - from,
        (let n = count in omega (arith, below, n)),
        read (h.at - from) below ∙ ap (λ n. get_or xs n x) there ∙ h.is,
      ),
)
  where
    count : length (take more (drop from xs)) ≡ more
    count = length-take-le more (drop from xs) (let n = length-drop from xs in omega (arith, n, le))

    read : (k : ℕ) → k < more → get_or (take more (drop from xs)) k x ≡ get_or xs (from + k) x
    read k lt = get_or-take more (drop from xs) k x lt ∙ get_or-drop from xs k x

pub past_lists : {X A : Type 0} (us : List (Vec X A)) (n : ℕ) → length us ≤ n → list_at us n ≡ []
past_lists [] zero le = refl
past_lists [] (suc n) le = refl
past_lists (u ∷ us) zero le = absurd (omega (arith, le))
past_lists (u ∷ us) (suc n) le = past_lists us n (omega (arith, le))

-- the same beside a fact
pub alongside : {P A B : Type 0} → (A ↔ B) → ((P × A) ↔ (P × B))
alongside {P} {A} {B} h = (λ x. (x.0, h.0 x.1), λ y. (y.0, h.1 y.1))

-- nothing is added
pub nothing_more : {O H : Type 0} → (H → ⊥) → (O ↔ (O ⊎ H))
nothing_more {O} {H} never = (λ o. inl o, λ x. either (λ o. o) (λ h. absurd (never h)) x)
