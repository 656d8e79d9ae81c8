-- Elements of lists that have a property, and lists of what there is for each of some.
use Rattle.std.specs.Prelude.{◌≡◌, ◌⊎◌, ℕ, zero, suc, ◌+◌, ◌<◌, ◌≤◌, List, [], ◌∷◌, length, get_or, map, All, Contains}
use Rattle.std.specs.List.Sorted.{IsStrictlyIncreasing}
use Rattle.std.proofs.Common.{refl, sym, ap, ap₂, subst, inl, inr, arith}
use Rattle.std.proofs.lemmas.Bool.{cases_lt}
use Rattle.std.proofs.lemmas.List.Elements.{All-nil, All-cons}
use Rattle.region_cells.specs.flow_graph.Graphs.{Among}
use Rattle.configured_laws.proofs.Lists.{first_or, behind, first, none_in}
use Rattle.configured_laws.proofs.InOrder.{AreOrdered, ordered}

-- it holds or it does not
abbrev pub Either : Type 0 → Type 0
Either P = P ⊎ (P → ⊥)

pub both : (P Q : Type 0) → Either P → Either Q → Either (P × Q)
both P Q (inl p) (inl q) = inl (p, q)
both P Q (inl p) (inr not) = inr (λ h. not h.1)
both P Q (inr not) d = inr (λ h. not h.0)

pub one_of : (P Q : Type 0) → Either P → Either Q → Either (P ⊎ Q)
one_of P Q (inl p) d = inl (inl p)
one_of P Q (inr not) (inl q) = inl (inr q)
one_of P Q (inr not) (inr nor) = inr (λ h. elim h [
  | inl p ↦ not p
  | inr q ↦ nor q
])

pub at_most : (m n : ℕ) → Either (m ≤ n)
at_most m n = elim (cases_lt n m) [
  | inl more ↦ inr (λ few. omega (arith, more, few))
  | inr few ↦ inl few
]

pub same_number : (m n : ℕ) → Either (m ≡ n)
same_number m n = elim (cases_lt m n) [
  | inl less ↦ inr (λ e. omega (arith, less, e))
  | inr least ↦ elim (cases_lt n m) [
    | inl more ↦ inr (λ e. omega (arith, more, e))
    | inr most ↦ inl (omega (arith, least, most))
  ]
]

-- ## One element

pub is_among : (t : ℕ) (ts : List ℕ) → Either (Among t ts)
is_among t [] = inr (λ a. a)
is_among t (u ∷ ts) = one_of (u ≡ t) (Among t ts) (same_number u t) (is_among t ts)

pub is_in : (z : ℕ) (xs : List ℕ) → Either (Contains xs z)
is_in z [] = inr (λ c. none_in z c)
is_in z (x ∷ xs) = elim (same_number x z) [
  | inl e ↦ inl (subst (Contains (x ∷ xs)) e (first x xs))
  | inr apart ↦ elim (is_in z xs) [
    | inl c ↦ inl (behind x xs z c)
    | inr not ↦
        inr (λ c. elim (first_or x xs z c) [
          | inl e ↦ apart e
          | inr d ↦ not d
        ])
  ]
]

module _ {X : Type 0} (P : X → Type 0) (by : (x : X) → Either (P x)) where
  -- some element has the property, or none has
  pub some_among : (xs : List X) → Either ((x : X) × Among x xs × P x)
  some_among [] = inr (λ h. h.1)
  some_among (x ∷ xs) = elim (by x) [
    | inl p ↦ inl (x, inl refl, p)
    | inr not ↦ elim (some_among xs) [
      | inl (y, a, p) ↦ inl (y, inr a, p)
      | inr none ↦
          inr (λ h. elim h.1 [
            | inl e ↦ not (subst P (sym e) h.2)
            | inr a ↦ none (h.0, a, h.2)
          ])
    ]
  ]

-- ## All elements

-- the numbers of a list that have a property, in rising order
pub record AreChosen (P : ℕ → Type 0) (xs ys : List ℕ) : Type 0 where
  pub rising : IsStrictlyIncreasing ys
  pub has : (z : ℕ) → Contains ys z → P z
  pub all : (z : ℕ) → Contains xs z → P z → Contains ys z

module _ (P : ℕ → Type 0) (by : (x : ℕ) → Either (P x)) where
  picked : (xs : List ℕ)
      → (ys : List ℕ) × ((z : ℕ) → Contains ys z → P z) × ((z : ℕ) → Contains xs z → P z → Contains ys z)
  picked [] = ([], λ z c. absurd (none_in z c), λ z c p. absurd (none_in z c))
  picked (x ∷ xs) =
      let (ys, has, all) = picked xs in
      elim (by x) [
        | inl p ↦ (
          x ∷ ys,
          λ z c. elim (first_or x ys z c) [
            | inl e ↦ subst P e p
            | inr d ↦ has z d
          ],
          λ z c q. elim (first_or x xs z c) [
            | inl e ↦ subst (Contains (x ∷ ys)) e (first x ys)
            | inr d ↦ behind x ys z (all z d q)
          ],
        )
        | inr not ↦ (
          ys,
          has,
          λ z c q. elim (first_or x xs z c) [
            | inl e ↦ absurd (not (subst P (sym e) q))
            | inr d ↦ all z d q
          ],
        )
      ]

  rising_by : (m n : ℕ) → (m < n) ⊎ ((m ≡ n) ⊎ (n < m))
  rising_by m n = elim (cases_lt m n) [
    | inl less ↦ inl less
    | inr least ↦ elim (cases_lt n m) [
      | inl more ↦ inr (inr more)
      | inr most ↦ inr (inl (omega (arith, least, most)))
    ]
  ]

  pub chosen : (xs : List ℕ) → (ys : List ℕ) × AreChosen P xs ys
  chosen xs =
      let (ys, has, all) = picked xs in
      let less : (m n o : ℕ) → m < n → n < o → m < o = λ m n o a b. omega (arith, a, b) in
      let r = ordered (λ m n. m < n) rising_by less ys in
      let zs : List ℕ = r.0 in
      let is : AreOrdered (λ m n. m < n) rising_by less ys zs = r.1 in (
        zs,
        record {
          rising = λ k lt. is.pairs k (k + 1) 0 (omega arith) lt;
          has = λ z c. has z (is.only z c);
          all = λ z c p. is.kept z (all z c p);
        },
      )

-- ## What there is for each

-- one for each number below this one
pub for_each : {X : Type 0} (count : ℕ) (Q : ℕ → X → Type 0) → ((n : ℕ) → n < count → (x : X) × Q n x)
    → (xs : List X) × (length xs ≡ count) × ((n : ℕ) (d : X) → n < count → Q n (get_or xs n d))
for_each zero Q f = ([], refl, λ n d lt. absurd (omega (arith, lt)))
for_each {X} (suc count) Q f =
    let here = f 0 (omega arith) in
    let x : X = here.0 in
    let r = for_each count (λ n y. Q (suc n) y) (λ n lt. f (suc n) (omega (arith, lt))) in
    let xs : List X = r.0 in
    (x ∷ xs, ap suc r.1, at x xs here.1 r.2)
  where
    at : (x : X) (xs : List X) → Q 0 x → ((n : ℕ) (d : X) → n < count → Q (suc n) (get_or xs n d))
        → (n : ℕ) (d : X) → n < suc count → Q n (get_or (x ∷ xs) n d)
    at x xs here rest zero d lt = here
    at x xs here rest (suc n) d lt = rest n d (omega (arith, lt))

-- and one for each element, with that as its key
pub for_keys : {X K : Type 0} (key : X → K) (Q : X → Type 0) (ks : List K)
    → ((k : K) → Contains ks k → (x : X) × (key x ≡ k) × Q x) → (xs : List X) × (map key xs ≡ ks) × All Q xs
for_keys key Q [] f = ([], refl, All-nil Q)
for_keys {X} key Q (k ∷ ks) f =
    let here = f k (first k ks) in
    let x : X = here.0 in
    let r = for_keys key Q ks (λ z c. f z (behind k ks z c)) in
    let xs : List X = r.0 in
    (x ∷ xs, ap₂ (λ a as'. a ∷ as') here.1 r.1, All-cons Q x xs here.2 r.2)
