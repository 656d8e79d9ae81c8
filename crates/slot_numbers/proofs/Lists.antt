-- Places in lists, and lists that grow.
use Rattle.std.proofs.Common.{◌≡◌, ℕ, suc, ◌+◌, ◌<◌, ◌≤◌, ◌==◌, Bool, true, false, cond, ◌&&◌, ◌||◌, List, [], ◌∷◌, ◌++◌, map, length, get_or, take, refl, sym, ap, ◌∙◌, subst, arith, inl, inr, Result, Ok, Err}
use Rattle.std.specs.Prelude.{EachIndex, MatchResult, leb}
use Rattle.std.specs.List.{filter}
use Rattle.std.specs.List.Sorted.{IsStrictlyIncreasing, IsBinarySearchResult}
use Rattle.std.specs.Ordering.{nat_cmp}
use Rattle.std.proofs.lemmas.Bool.{eqb-true, eq-eqb, ne_eqb, lt-leb, cases_Bool, cases_order}
use Rattle.std.proofs.lemmas.List.{take_more, take_all, map_more, map-append, append_assoc, append-nil}
use Rattle.std.proofs.lemmas.List.Elements.{filter-append}
use Rattle.std.proofs.lemmas.List.Kept.{AllPairs-from_increasing}
use Rattle.std.proofs.lemmas.List.Sorted.{searched}
use Rattle.cell_placings.specs.CellLists.{is_in, cells_at}
use Rattle.cell_placings.specs.OwnerTrees.{OwnerTree, owns_in}
use Rattle.cell_placings.proofs.Members.{place_of, in_at, not_true}
use Rattle.slot_numbers.specs.Numberings.{place_in}

-- ## Places

tail_has : (y x : ℕ) (ys : List ℕ) → (y == x) ≡ false → is_in (y ∷ ys) x ≡ true → is_in ys x ≡ true
tail_has y x ys h e = subst (λ b. (b || is_in ys x) ≡ true) h e

pub place_lt : (xs : List ℕ) (x : ℕ) → is_in xs x ≡ true → place_in xs x < length xs
place_lt [] x e = absurd cc
place_lt (y ∷ ys) x e =
    elim (cases_Bool (y == x)) [
      | inl h ↦ subst (λ b. cond b 0 (suc (place_in ys x)) < suc (length ys)) (sym h) (omega arith)
      | inr h ↦ (let t = place_lt ys x (tail_has y x ys h e) in
          subst (λ b. cond b 0 (suc (place_in ys x)) < suc (length ys)) (sym h) (omega (arith, t)))
    ]

pub place_at : (xs : List ℕ) (x : ℕ) → is_in xs x ≡ true → get_or xs (place_in xs x) 0 ≡ x
place_at [] x e = absurd cc
place_at (y ∷ ys) x e =
    elim (cases_Bool (y == x)) [
      | inl h ↦ subst (λ b. get_or (y ∷ ys) (cond b 0 (suc (place_in ys x))) 0 ≡ x) (sym h) (eqb-true y x h)
      | inr h ↦ subst (λ b. get_or (y ∷ ys) (cond b 0 (suc (place_in ys x))) 0 ≡ x) (sym h)
          (place_at ys x (tail_has y x ys h e))
    ]

module _ (xs : List ℕ) (rising : IsStrictlyIncreasing xs) where
  same_place : (i j : ℕ) → i < length xs → j < length xs → get_or xs i 0 ≡ get_or xs j 0 → i ≡ j
  same_place i j li lj e =
      let below = AllPairs-from_increasing xs rising in
      elim (cases_order i j) [
        | inl s ↦ s
        | inr o ↦ elim o [
          | inl l ↦ absurd (let h = below i j 0 l lj in omega (arith, h, e))
          | inr l ↦ absurd (let h = below j i 0 l li in omega (arith, h, e))
        ]
      ]

  pub place_of_at : (j : ℕ) → j < length xs → place_in xs (get_or xs j 0) ≡ j
  place_of_at j lt =
      let has = in_at xs j lt in
      same_place (place_in xs (get_or xs j 0)) j (place_lt xs (get_or xs j 0) has) lt (place_at xs (get_or xs j 0) has)

  rises : (i j : ℕ) → i ≤ j → j < length xs → get_or xs i 0 ≤ get_or xs j 0
  rises i j le lt =
      let below = AllPairs-from_increasing xs rising in
      elim (cases_order i j) [
        | inl s ↦ subst (λ k. get_or xs i 0 ≤ get_or xs k 0) s (omega arith)
        | inr o ↦ elim o [
          | inl l ↦ (let h = below i j 0 l lt in omega (arith, h))
          | inr l ↦ absurd (omega (arith, l, le))
        ]
      ]

  module _ (x : ℕ) where
    nowhere : (i : ℕ) → ((k : ℕ) → k < i → get_or xs k 0 < x)
        → ((k : ℕ) → i ≤ k → k < length xs → x < get_or xs k 0) → is_in xs x ≡ true → ⊥
    nowhere i under over e =
        let p = place_of xs x e in
        elim (cases_order p.0 i) [
          | inl s ↦ (let h = over p.0 (omega (arith, s)) p.1 in omega (arith, h, p.2))
          | inr o ↦ elim o [
            | inl l ↦ (let h = under p.0 l in omega (arith, h, p.2))
            | inr l ↦ (let h = over p.0 (omega (arith, l)) p.1 in omega (arith, h, p.2))
          ]
        ]

    by_answer : (r : Result ℕ ℕ) → MatchResult r (λ i. (i < length xs) × (get_or xs i 0 ≡ x))
        (λ i. (i ≤ length xs) × ((k : ℕ) → k < i → get_or xs k 0 < x)
        × ((k : ℕ) → i ≤ k → k < length xs → x < get_or xs k 0))
        → MatchResult r (λ i. (is_in xs x ≡ true) × (i ≡ place_in xs x)) (λ i. is_in xs x ≡ false)
    by_answer (Ok i) m = (
      subst (λ z. is_in xs z ≡ true) m.1 (in_at xs i m.0),
      sym (place_of_at i m.0) ∙ ap (place_in xs) m.1,
    )
    by_answer (Err i) m = not_true (is_in xs x) (nowhere i m.1 m.2)

    -- what a search finds is the place
    pub place_found : (r : Result ℕ ℕ) → IsBinarySearchResult (λ y. nat_cmp y x) xs r
        → MatchResult r (λ i. (is_in xs x ≡ true) × (i ≡ place_in xs x)) (λ i. is_in xs x ≡ false)
    place_found r answer = by_answer r (searched xs x r answer rises)

-- ## Tests

pub all_below : (xs : List ℕ) (end : ℕ) → EachIndex xs (λ k. get_or xs k 0 < end) → (x : ℕ) → is_in xs x ≡ true
    → x < end
all_below xs end each x e = let p = place_of xs x e in subst (λ z. z < end) p.2 (each p.0 p.1)

pub below_each : (xs : List ℕ) (end : ℕ) → ((x : ℕ) → is_in xs x ≡ true → x < end)
    → EachIndex xs (λ k. get_or xs k 0 < end)
below_each xs end all = λ k lt. all (get_or xs k 0) (in_at xs k lt)

and_comes : (a b c : Bool) → ((a && b) || (c && b)) ≡ ((a || c) && b)
and_comes true true c = refl
and_comes true false true = refl
and_comes true false false = refl
and_comes false b c = refl

-- what passes the test stands in what is filtered
pub in_filter : (p : ℕ → Bool) (xs : List ℕ) (x : ℕ) → is_in (filter p xs) x ≡ (is_in xs x && p x)
in_filter p [] x = refl
in_filter p (y ∷ ys) x =
    elim (cases_Bool (p y)) [
      | inl h ↦ subst (λ b. is_in (cond b (y ∷ filter p ys) (filter p ys)) x ≡ (is_in (y ∷ ys) x && p x)) (sym h)
          (elim (cases_Bool (y == x)) [
            | inl s ↦ (let px : p x ≡ true = ap p (sym (eqb-true y x s)) ∙ h in
                ap (λ b. b || is_in (filter p ys) x) s
                ∙ sym (ap (λ b. (b || is_in ys x) && p x) s ∙ px))
            | inr d ↦ ap (λ b. b || is_in (filter p ys) x) d ∙ in_filter p ys x
                ∙ sym (ap (λ b. (b || is_in ys x) && p x) d)
          ])
      | inr h ↦ subst (λ b. is_in (cond b (y ∷ filter p ys) (filter p ys)) x ≡ (is_in (y ∷ ys) x && p x)) (sym h)
          (elim (cases_Bool (y == x)) [
            | inl s ↦ (let px : p x ≡ false = ap p (sym (eqb-true y x s)) ∙ h in
                in_filter p ys x ∙ ap (λ b. is_in ys x && b) px ∙ and_none (is_in ys x)
                ∙ sym (ap (λ b. (b || is_in ys x) && p x) s ∙ px))
            | inr d ↦ in_filter p ys x ∙ sym (ap (λ b. (b || is_in ys x) && p x) d)
          ])
    ]
  where
    and_none : (b : Bool) → (b && false) ≡ false
    and_none true = refl
    and_none false = refl

-- what is filtered of the whole list
pub counted_is : (listed cells : List ℕ) (i : ℕ) (kept found : List ℕ) → length listed ≤ i
    → kept ≡ filter (is_in cells) (take i listed) → ((x : ℕ) → is_in found x ≡ is_in kept x) → (x : ℕ)
    → is_in found x ≡ (is_in listed x && is_in cells x)
counted_is listed cells i kept found le is same x =
    same x ∙ ap (λ ys. is_in ys x) (is ∙ ap (filter (is_in cells)) (take_all i listed le))
    ∙ in_filter (is_in cells) listed x

twice : (b : Bool) → (b && b) ≡ (b && true)
twice true = refl
twice false = refl

module _ (tree : OwnerTree) (cells : List ℕ) (node : ℕ) where
  -- node 0 owns all
  pub own_of_entry : node ≡ 0 → (listed : List ℕ) → listed ≡ cells → (own : List ℕ)
      → ((x : ℕ) → is_in own x ≡ (is_in listed x && is_in cells x)) → (x : ℕ)
      → is_in own x ≡ (is_in cells x && owns_in tree node x)
  own_of_entry at listed is own has x =
      has x ∙ ap (λ ys. is_in ys x && is_in cells x) is ∙ twice (is_in cells x)
      ∙ ap (λ b. is_in cells x && (b || (leb tree.cells x || is_in (cells_at tree.owned node) x)))
      (sym (eq-eqb node 0 at))

  -- another node what is listed
  pub own_of_node : 0 < node → ((x : ℕ) → is_in cells x ≡ true → x < tree.cells) → (listed : List ℕ)
      → listed ≡ cells_at tree.owned node → (own : List ℕ)
      → ((x : ℕ) → is_in own x ≡ (is_in listed x && is_in cells x)) → (x : ℕ)
      → is_in own x ≡ (is_in cells x && owns_in tree node x)
  own_of_node pos counted listed is own has x =
      has x ∙ ap (λ ys. is_in ys x && is_in cells x) is
      ∙ elim (cases_Bool (is_in cells x)) [
        | inl h ↦ (let l = counted x h in
            ap (λ b. is_in (cells_at tree.owned node) x && b) h ∙ and_true (is_in (cells_at tree.owned node) x)
            ∙ sym (ap (λ b. b && owns_in tree node x) h
            ∙ ap (λ b. b || (leb tree.cells x || is_in (cells_at tree.owned node) x))
            (ne_eqb node 0 (λ z. omega (arith, z, pos)))
            ∙ ap (λ b. b || is_in (cells_at tree.owned node) x) (lt-leb tree.cells x l)))
        | inr h ↦ ap (λ b. is_in (cells_at tree.owned node) x && b) h ∙ and_false (is_in (cells_at tree.owned node) x)
            ∙ sym (ap (λ b. b && owns_in tree node x) h)
      ]
    where
      and_true : (b : Bool) → (b && true) ≡ b
      and_true true = refl
      and_true false = refl

      and_false : (b : Bool) → (b && false) ≡ false
      and_false true = refl
      and_false false = refl

-- what holds of the sets of a list holds of those of the same list
pub same_sets : (cells : List ℕ) (one other : List (List ℕ)) (n m : ℕ) → one ≡ other → n ≡ m
    → ((k x : ℕ) → k < n → is_in (cells_at one k) x ≡ true → is_in cells x ≡ true)
    → (k x : ℕ) → k < m → is_in (cells_at other k) x ≡ true → is_in cells x ≡ true
same_sets cells one other n m is same h =
    subst (λ (sets : List (List ℕ)). (k x : ℕ) → k < m → is_in (cells_at sets k) x ≡ true → is_in cells x ≡ true) is
    (subst (λ end. (k x : ℕ) → k < end → is_in (cells_at one k) x ≡ true → is_in cells x ≡ true) same h)

-- ## Lists that grow

-- one more element of a list is made
pub pushed_more : {A : Type 0} (f : ℕ → A) (xs : List ℕ) (i : ℕ) (before now new : List A) → i < length xs
    → now ≡ before ++ map f (take i xs) → new ≡ now ++ f (get_or xs i 0) ∷ []
    → new ≡ before ++ map f (take (i + 1) xs)
pushed_more f xs i before now new lt is more =
    more ∙ ap (λ z. z ++ f (get_or xs i 0) ∷ []) is
    ∙ append_assoc before (map f (take i xs)) (f (get_or xs i 0) ∷ [])
    ∙ ap (λ z. before ++ z) (sym (map_more f xs i 0 lt))

pub numbered_more : {A : Type 0} (g : A → ℕ) (f : ℕ → A) (xs : List ℕ) (i n : ℕ) (before now new : List ℕ)
    → i < length xs → now ≡ before ++ map g (map f (take i xs)) → n ≡ g (f (get_or xs i 0)) → new ≡ now ++ n ∷ []
    → new ≡ before ++ map g (map f (take (i + 1) xs))
numbered_more g f xs i n before now new lt is made more =
    more ∙ ap (λ z. z ++ n ∷ []) is ∙ append_assoc before (map g (map f (take i xs))) (n ∷ [])
    ∙ ap (λ z. before ++ (map g (map f (take i xs)) ++ z ∷ [])) made
    ∙ ap (λ z. before ++ z)
    (sym (ap (map g) (map_more f xs i 0 lt) ∙ map-append g (map f (take i xs)) (f (get_or xs i 0) ∷ [])))

module _ {A : Type 0} (f : ℕ → A) (p : ℕ → Bool) (xs : List ℕ) (i : ℕ) (lt : i < length xs) where
  step : filter p (take (i + 1) xs) ≡ filter p (take i xs) ++ filter p (get_or xs i 0 ∷ [])
  step = ap (filter p) (take_more xs i 0 lt) ∙ filter-append p (take i xs) (get_or xs i 0 ∷ [])

  made : (b : Bool) → p (get_or xs i 0) ≡ b
      → map f (filter p (take (i + 1) xs))
      ≡ map f (filter p (take i xs)) ++ map f (cond b (get_or xs i 0 ∷ []) [])
  made b e =
      ap (map f) step ∙ map-append f (filter p (take i xs)) (filter p (get_or xs i 0 ∷ []))
      ∙ ap (λ c. map f (filter p (take i xs)) ++ map f (cond c (get_or xs i 0 ∷ []) [])) e

-- one more element passes the test, and is made
pub filtered_in : {A : Type 0} (f : ℕ → A) (p : ℕ → Bool) (xs : List ℕ) (i : ℕ) (before now new : List A)
    → i < length xs → now ≡ before ++ map f (filter p (take i xs)) → p (get_or xs i 0) ≡ true
    → new ≡ now ++ f (get_or xs i 0) ∷ [] → new ≡ before ++ map f (filter p (take (i + 1) xs))
filtered_in f p xs i before now new lt is e more =
    more ∙ ap (λ z. z ++ f (get_or xs i 0) ∷ []) is
    ∙ append_assoc before (map f (filter p (take i xs))) (f (get_or xs i 0) ∷ [])
    ∙ ap (λ z. before ++ z) (sym (made f p xs i lt true e))

-- one more element does not
pub filtered_out : {A : Type 0} (f : ℕ → A) (p : ℕ → Bool) (xs : List ℕ) (i : ℕ) (before now : List A)
    → i < length xs → now ≡ before ++ map f (filter p (take i xs)) → p (get_or xs i 0) ≡ false
    → now ≡ before ++ map f (filter p (take (i + 1) xs))
filtered_out f p xs i before now lt is e =
    is ∙ ap (λ z. before ++ z) (sym (made f p xs i lt false e ∙ append-nil (map f (filter p (take i xs)))))

-- a list to which numbers were added, one by one
pub listed_one : (before one all : List ℕ) (a : ℕ) (rest : List ℕ) → before ≡ [] → one ≡ before ++ a ∷ []
    → all ≡ one ++ rest → all ≡ a ∷ rest
listed_one before one all a rest is0 is1 is =
    is ∙ ap (λ z. z ++ rest) (is1 ∙ ap (λ z. z ++ a ∷ []) is0)

pub listed_two : (before one two all : List ℕ) (a b : ℕ) (rest : List ℕ) → before ≡ [] → one ≡ before ++ a ∷ []
    → two ≡ one ++ b ∷ [] → all ≡ two ++ rest → all ≡ a ∷ b ∷ rest
listed_two before one two all a b rest is0 is1 is2 is =
    is ∙ ap (λ z. z ++ rest) (is2 ∙ ap (λ z. z ++ b ∷ []) (is1 ∙ ap (λ z. z ++ a ∷ []) is0))
