-- Lists with one more element, lists side by side, and lists in lists.
use Rattle.std.proofs.Common.{◌≡◌, ◌↔◌, ◌⊎◌, ℕ, zero, suc, ◌+◌, ◌<◌, ◌≤◌, refl, ap, sym, subst, ◌∙◌, inl, inr, Bool, true}
use Rattle.std.proofs.Common.{false, ◌==◌, List, [], ◌∷◌, ◌++◌, length, get_or, take, arith}
use Rattle.std.specs.Prelude.{Contains}
use Rattle.std.specs.declared.vec.Vec.{Vec}
use Rattle.std.specs.List.Sorted.{IsStrictlyIncreasing, IsSorted, IsPermutation}
use Rattle.std.specs.List.Retain.{IsFiltered, DiffersFromLast}
use Rattle.std.specs.List.{dedup}
use Rattle.std.specs.Ordering.{nat_cmp}
use Rattle.std.proofs.lemmas.Bool.{true≢false, cases_eq}
use Rattle.std.proofs.lemmas.List.{take_more, get_or_default, get_or-map, get_or_push, get_or_append_left, length-take-le, length_push}
use Rattle.std.proofs.lemmas.List.Filters.{dedup_is}
use Rattle.std.proofs.lemmas.List.Kept.{Contains-dedup_nat, Contains-from_dedup}
use Rattle.std.proofs.lemmas.List.Sorted.{Contains-permutation, IsPermutation-sym}
use Rattle.std.proofs.lemmas.Map.Keys.{IsStrictlyIncreasing-dedup}
use Rattle.access_races.proofs.Joins.{either, grown, pushed, one_more}
use Rattle.access_races.specs.reading.Ways.{list_at, HasOne}
use Rattle.access_races.proofs.Rising.{none, first, later}
use Rattle.access_partners.specs.Lists.{AreListed, AreThose, AreEach}
use Rattle.access_partners.specs.Lists.AreThose.{none as no_more, kept, left_out}
use Rattle.access_partners.specs.reading.Pairs.{kept_by}

-- ## One more

pub has_at : {X : Type 0} (xs : List X) (i : ℕ) (d : X) → i < length xs → Contains xs (get_or xs i d)
has_at xs i d lt = (i, lt, get_or_default xs i (get_or xs i d) d lt)

-- the same where one of two facts is said otherwise
pub under_same : {S F P Q R : Type 0} → (S ↔ (F ⊎ (P × R))) → (Q → P) → (P → Q) → (S ↔ (F ⊎ (Q × R)))
under_same {S} {F} {P} {Q} {R} h to from = (
  λ s. either (λ f. inl f) (λ (k : P × R). inr (from k.0, k.1)) (h.0 s),
  λ x. h.1 (either (λ f. inl f) (λ (k : Q × R). inr (to k.0, k.1)) x),
)

pub has_none : {X : Type 0} (Is : X → Type 0) → HasOne Is [] → ⊥
has_none Is h = none h.one h.has

-- a list of what is read of each of the first, with one more
pub listed_more : {X Y : Type 0} (f : X → Y) (xs : List X) (i : ℕ) (d : X) → i < length xs → (us vs : List Y)
    → vs ≡ us ++ f (get_or xs i d) ∷ []
    → ((y : Y) → Contains us y ↔ HasOne (λ (x : X). y ≡ f x) (take i xs)) → (y : Y)
    → Contains vs y ↔ HasOne (λ (x : X). y ≡ f x) (take (i + 1) xs)
listed_more {X} {Y} f xs i d lt us vs is so_far y =
    grown (pushed us vs (f (get_or xs i d)) is y) (so_far y) (one_more (λ (x : X). y ≡ f x) xs i d lt)

pub push_count : {X : Type 0} (us vs : List X) (x : X) (n : ℕ) → vs ≡ us ++ x ∷ [] → length us ≡ n → length vs ≡ n + 1
push_count us vs x n is e = ap length is ∙ length_push us x ∙ ap (λ m. m + 1) e

-- some of those that are kept
pub through : {X : Type 0} (Is : X → Type 0) (f : X → ℕ) (some xs : List X)
    → ((x : X) → Contains some x ↔ HasOne (λ (y : X). Is y × (x ≡ y)) xs) → (n : ℕ)
    → HasOne (λ (x : X). n ≡ f x) some ↔ HasOne (λ (x : X). Is x × (n ≡ f x)) xs
through {X} Is f some xs are n = (
  λ h. let r = (are h.one).0 h.has in record { one = r.one; has = r.has; is = (r.is.0, h.is ∙ ap f r.is.1) },
  λ g. record {
    one = g.one;
    has = (are g.one).1 (record { one = g.one; has = g.has; is = (g.is.0, refl) });
    is = g.is.1;
  },
)

-- for each of the first numbers, with one more
pub all_more : {X : Type 0} (P : ℕ → X → Type 0) (d : X) (xs : List X) (x : X) (n : ℕ) → length xs ≡ n
    → ((k : ℕ) → k < n → P k (get_or xs k d)) → P n x → (k : ℕ) → k < n + 1 → P k (get_or (xs ++ x ∷ []) k d)
all_more {X} P d xs x n e h p k lt =
    either
    (λ same. subst (λ m. P m (get_or (xs ++ x ∷ []) m d)) (sym same) (subst (P n) (sym (get_or_push xs x d n e)) p))
    (λ other. let below : k < n = omega (arith, lt, other) in
    subst (P k) (sym (get_or_append_left xs (x ∷ []) d k (omega (arith, below, e)))) (h k below)) (cases_eq k n)

-- ## Those that are told to be

pub kept_push : {X : Type 0} (bs : List Bool) (xs : List X) (b : Bool) (x : X) → length bs ≡ length xs
    → kept_by (bs ++ b ∷ []) (xs ++ x ∷ []) ≡ kept_by bs xs ++ kept_by (b ∷ []) (x ∷ [])
kept_push [] [] b x e = refl
kept_push [] (y ∷ xs) b x e = absurd (omega (arith, e))
kept_push (c ∷ bs) [] b x e = absurd (omega (arith, e))
kept_push (true ∷ bs) (y ∷ xs) b x e = ap (λ l. y ∷ l) (kept_push bs xs b x (omega (arith, e)))
kept_push (false ∷ bs) (y ∷ xs) b x e = kept_push bs xs b x (omega (arith, e))

pub kept_more : {X : Type 0} (bs : List Bool) (xs : List X) (d : X) (i : ℕ) → i < length xs → length bs ≡ length xs
    → kept_by (take (i + 1) bs) (take (i + 1) xs)
    ≡ kept_by (take i bs) (take i xs) ++ kept_by (get_or bs i false ∷ []) (get_or xs i d ∷ [])
kept_more bs xs d i lt e =
    let in_bs : i < length bs = omega (arith, lt, e) in
    let b-more = take_more bs i false in_bs in
    let x-more = take_more xs i d lt in
    (λ j. kept_by (b-more j) (x-more j))
    ∙ kept_push (take i bs) (take i xs) (get_or bs i false) (get_or xs i d)
    (length-take-le i bs (omega (arith, in_bs)) ∙ sym (length-take-le i xs (omega (arith, lt))))

pub those_from : {X : Type 0} (Is : X → Type 0) (d : X) (bs : List Bool) (xs : List X) → length bs ≡ length xs
    → ((j : ℕ) → j < length xs → (get_or bs j false ≡ true) ↔ Is (get_or xs j d)) → AreThose Is xs (kept_by bs xs)
those_from Is d [] [] e h = no_more
those_from Is d [] (x ∷ xs) e h = absurd (omega (arith, e))
those_from Is d (b ∷ bs) [] e h = absurd (omega (arith, e))
those_from Is d (true ∷ bs) (x ∷ xs) e h =
    kept ((h zero (omega arith)).0 refl)
    (those_from Is d bs xs (omega (arith, e)) (λ j lt. h (suc j) (omega (arith, lt))))
those_from Is d (false ∷ bs) (x ∷ xs) e h =
    left_out (λ is. true≢false (sym ((h zero (omega arith)).1 is)))
    (those_from Is d bs xs (omega (arith, e)) (λ j lt. h (suc j) (omega (arith, lt))))

-- ## Lists side by side

pub each_push : {X Y : Type 0} (R : X → Y → Type 0) (xs : List X) (ys : List Y) (x : X) (y : Y) → AreEach R xs ys
    → R x y → AreEach R (xs ++ x ∷ []) (ys ++ y ∷ [])
each_push R [] [] x y h r = (r, tt)
each_push R [] (b ∷ ys) x y h r = absurd h
each_push R (a ∷ xs) [] x y h r = absurd h
each_push R (a ∷ xs) (b ∷ ys) x y h r = (h.0, each_push R xs ys x y h.1 r)

pub each_from : {X Y : Type 0} (R : X → Y → Type 0) (d : X) (xs : List X) (ys : List Y) → length ys ≡ length xs
    → ((i : ℕ) (y : Y) → i < length xs → R (get_or xs i d) (get_or ys i y)) → AreEach R xs ys
each_from R d [] [] e h = tt
each_from R d [] (y ∷ ys) e h = absurd (omega (arith, e))
each_from R d (x ∷ xs) [] e h = absurd (omega (arith, e))
each_from R d (x ∷ xs) (y ∷ ys) e h = (
  h zero y (omega arith),
  each_from R d xs ys (omega (arith, e)) (λ i z lt. h (suc i) z (omega (arith, lt))),
)

pub each_map : {X Y : Type 0} (R S : X → Y → Type 0) (xs : List X) (ys : List Y)
    → ((x : X) → Contains xs x → (y : Y) → R x y → S x y) → AreEach R xs ys → AreEach S xs ys
each_map R S [] [] f h = tt
each_map R S [] (y ∷ ys) f h = absurd h
each_map R S (x ∷ xs) [] f h = absurd h
each_map R S (x ∷ xs) (y ∷ ys) f h = (
  f x (first x xs) y h.0,
  each_map R S xs ys (λ z c. f z (later x z xs c)) h.1,
)

-- ## Lists in lists

module _ {X A : Type 0} where
  pub list_of : (lists : List (Vec X A)) (n : ℕ) → n < length lists → (v : Vec X A) → v ≡ get_or lists n v
      → v.items ≡ list_at lists n
  list_of lists n lt v is =
      ap (λ (l : Vec X A). l.items) is ∙ sym (get_or-map (λ (l : Vec X A). l.items) lists n v [] lt)

  at_push : (us : List (Vec X A)) (v : Vec X A) (n : ℕ) → length us ≡ n → list_at (us ++ v ∷ []) n ≡ v.items
  at_push [] v zero e = refl
  at_push [] v (suc n) e = absurd (omega (arith, e))
  at_push (u ∷ us) v zero e = absurd (omega (arith, e))
  at_push (u ∷ us) v (suc n) e = at_push us v n (omega (arith, e))

  before_push : (us : List (Vec X A)) (v : Vec X A) (n : ℕ) → n < length us → list_at (us ++ v ∷ []) n ≡ list_at us n
  before_push [] v n lt = absurd (omega (arith, lt))
  before_push (u ∷ us) v zero lt = refl
  before_push (u ∷ us) v (suc n) lt = before_push us v n (omega (arith, lt))

  pub past_lists : (us : List (Vec X A)) (n : ℕ) → length us ≤ n → list_at us n ≡ []
  past_lists [] zero le = refl
  past_lists [] (suc n) le = refl
  past_lists (u ∷ us) zero le = absurd (omega (arith, le))
  past_lists (u ∷ us) (suc n) le = past_lists us n (omega (arith, le))

  pub lists_more : (P : ℕ → List X → Type 0) (us : List (Vec X A)) (v : Vec X A) (n : ℕ) → length us ≡ n
      → ((k : ℕ) → k < n → P k (list_at us k)) → P n v.items → (k : ℕ) → k < n + 1 → P k (list_at (us ++ v ∷ []) k)
  lists_more P us v n e h p k lt =
      either
      (λ same. subst (λ m. P m (list_at (us ++ v ∷ []) m)) (sym same) (subst (P n) (sym (at_push us v n e)) p))
      (λ other. let below : k < n = omega (arith, lt, other) in
      subst (P k) (sym (before_push us v k (omega (arith, below, e)))) (h k below)) (cases_eq k n)

-- ## Numbers

-- numbers that are sorted and of which repeats are dropped
module _ (given sorted once : List ℕ) (moved : IsPermutation given sorted) (is : IsSorted nat_cmp sorted)
    (filtered : IsFiltered (DiffersFromLast (λ x y. x == y)) [] sorted once) (Is : ℕ → Type 0)
    (same : (n : ℕ) → Contains given n ↔ Is n) where
  once_is : once ≡ dedup (λ x y. x == y) sorted
  once_is = dedup_is (λ x y. x == y) sorted once filtered

  pub numbers_listed : AreListed Is once
  numbers_listed = record {
    rising = subst IsStrictlyIncreasing (sym once_is) (IsStrictlyIncreasing-dedup sorted is);
    exact = λ n. (
      λ h. (same n).0 (Contains-permutation sorted given n (IsPermutation-sym given sorted moved)
          (Contains-from_dedup (λ x y. x == y) sorted n (subst (λ l. Contains l n) once_is h))),
      λ h. subst (λ l. Contains l n) (sym once_is)
          (Contains-dedup_nat sorted n (Contains-permutation given sorted n moved ((same n).1 h))),
    );
  }

-- the same by other words
pub relisted : (Is Are : ℕ → Type 0) → ((n : ℕ) → Is n ↔ Are n) → (numbers : List ℕ) → AreListed Is numbers
    → AreListed Are numbers
relisted Is Are same numbers h = record {
  rising = h.rising;
  exact = λ n. (λ c. (same n).0 ((h.exact n).0 c), λ a. (h.exact n).1 ((same n).1 a));
}
