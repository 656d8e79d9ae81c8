-- Whether a function reaches another by calls can be decided, and so which function is the first that reaches itself.
use Rattle.std.proofs.Common.{◌≡◌, ℕ, ◌<◌, zero, suc, List, [], ◌∷◌, ◌++◌, ◌⊎◌, inl, inr, length, refl, sym, subst, arith}
use Rattle.std.specs.Prelude.{All, Contains, ◌≢◌}
use Rattle.std.proofs.lemmas.Bool.{cases_lt, cases_eq}
use Rattle.std.proofs.lemmas.List.{append_assoc, append-nil, get_or_past}
use Rattle.std.proofs.lemmas.List.Elements.{All-contains, All-nil, All-push}
use Rattle.tm_typed.specs.CallGraph.{Reaches, by_call, by_calls, calls_in, IsFirstRecursive}

-- it holds, or it does not
abbrev pub Decided : Type 0 → Type 0
Decided P = P ⊎ (P → ⊥)

contains_none : (x : ℕ) → Contains [] x → ⊥
contains_none x c = omega (arith, c.1)

contains_cons : (y : ℕ) (ys : List ℕ) (x : ℕ) → Contains (y ∷ ys) x → (y ≡ x) ⊎ Contains ys x
contains_cons y ys x (zero, l, e) = inl e
contains_cons y ys x (suc k, l, e) = inr (k, omega arith, e)

among : (xs : List ℕ) (x : ℕ) → Decided (Contains xs x)
among [] x = inr (contains_none x)
among (y ∷ ys) x = elim (cases_eq y x) [
  | inl e ↦ inl (zero, omega arith, e)
  | inr n ↦ elim (among ys x) [
    | inl c ↦ inl (suc c.0, omega (arith, c.1), c.2)
    | inr never ↦ inr (λ c. elim (contains_cons y ys x c) [ inl e ↦ n e | inr d ↦ never d ])
  ]
]

-- f reaches h, and all functions between them have numbers below n
Within : (ℕ → List ℕ) → ℕ → ℕ → ℕ → Type 0
Within calls zero f h = Contains (calls f) h
Within calls (suc n) f h = Within calls n f h ⊎ (Within calls n f n × Within calls n n h)

within_decided : (calls : ℕ → List ℕ) (n f h : ℕ) → Decided (Within calls n f h)
unfolding Within
within_decided calls zero f h = among (calls f) h
within_decided calls (suc n) f h = by_parts (within_decided calls n f h) (within_decided calls n f n) (within_decided calls n n h)
  where
    by_parts : Decided (Within calls n f h) → Decided (Within calls n f n) → Decided (Within calls n n h) → Decided (Within calls n f h ⊎ (Within calls n f n × Within calls n n h))
    by_parts (inl p) q r = inl (inl p)
    by_parts (inr p) (inl q) (inl r) = inl (inr (q, r))
    by_parts (inr p) (inr q) r = inr (λ w. elim w [ inl a ↦ p a | inr a ↦ q a.0 ])
    by_parts (inr p) (inl q) (inr r) = inr (λ w. elim w [ inl a ↦ p a | inr a ↦ r a.1 ])

joined : (calls : ℕ → List ℕ) (f g h : ℕ) → Reaches calls f g → Reaches calls g h → Reaches calls f h
joined calls _ _ h (by_call f g c) r = by_calls f g h c r
joined calls _ _ h (by_calls f g k c s) r = by_calls f g h c (joined calls g k h s r)

within_reaches : (calls : ℕ → List ℕ) (n f h : ℕ) → Within calls n f h → Reaches calls f h
unfolding Within
within_reaches calls zero f h c = by_call f h c
within_reaches calls (suc n) f h (inl w) = within_reaches calls n f h w
within_reaches calls (suc n) f h (inr w) = joined calls f n h (within_reaches calls n f n w.0) (within_reaches calls n n h w.1)

from_call : (calls : ℕ → List ℕ) (n f h : ℕ) → Contains (calls f) h → Within calls n f h
unfolding Within
from_call calls zero f h c = c
from_call calls (suc n) f h c = inl (from_call calls n f h c)

-- the parts of a way of n + 1 that ends, or begins, at n
last_part : (calls : ℕ → List ℕ) (n f : ℕ) → Within calls (suc n) f n → Within calls n f n
unfolding Within
last_part calls n f (inl w) = w
last_part calls n f (inr w) = w.0

first_part : (calls : ℕ → List ℕ) (n h : ℕ) → Within calls (suc n) n h → Within calls n n h
unfolding Within
first_part calls n h (inl w) = w
first_part calls n h (inr w) = w.1

-- two ways of n that meet below n make one
Joins : (ℕ → List ℕ) → ℕ → Type 0
Joins calls n = (f g h : ℕ) → g < n → Within calls n f g → Within calls n g h → Within calls n f h

joins_below : (calls : ℕ → List ℕ) (n f g h : ℕ) → Joins calls n → g < n → Within calls (suc n) f g → Within calls (suc n) g h → Within calls (suc n) f h
unfolding Within Joins
joins_below calls n f g h j k (inl a) (inl b) = inl (j f g h k a b)
joins_below calls n f g h j k (inl a) (inr b) = inr (j f g n k a b.0, b.1)
joins_below calls n f g h j k (inr a) (inl b) = inr (a.0, j n g h k a.1 b)
joins_below calls n f g h j k (inr a) (inr b) = inr (a.0, b.1)

below_of : (g n : ℕ) → g < suc n → g ≢ n → g < n
below_of g n l other = elim (cases_lt g n) [ inl less ↦ less | inr more ↦ absurd (other (omega (arith, l, more))) ]

joins_next : (calls : ℕ → List ℕ) (n : ℕ) → Joins calls n → Joins calls (suc n)
unfolding Within Joins
joins_next calls n j f g h l v w = elim (cases_eq g n) [
  | inl e ↦
      let P : ℕ → Type 0 = λ x. Within calls (suc n) f x in
      let Q : ℕ → Type 0 = λ x. Within calls (suc n) x h in
      inr (last_part calls n f (subst P e v), first_part calls n h (subst Q e w))
  | inr other ↦ joins_below calls n f g h j (below_of g n l other) v w
]

through : (calls : ℕ → List ℕ) (n : ℕ) → Joins calls n
unfolding Joins
through calls zero f g h l v w = absurd (omega (arith, l))
through calls (suc n) f g h l v w = joins_next calls n (through calls n) f g h l v w

-- a function that reaches one calls some
calls_some : (calls : ℕ → List ℕ) (f h : ℕ) → Reaches calls f h → 0 < length (calls f)
calls_some calls _ _ (by_call f h c) = omega (arith, c.1)
calls_some calls _ _ (by_calls f g h c r) = omega (arith, c.1)

is_function : (graph : List (List ℕ)) (f : ℕ) → 0 < length (calls_in graph f) → f < length graph
is_function graph f l = elim (cases_lt f (length graph)) [
  | inl less ↦ less
  | inr past ↦
      let P : List ℕ → Type 0 = λ xs. 0 < length xs in
      let none : 0 < length (let e : List ℕ = [] in e) = subst P (get_or_past graph f [] past) l in
      absurd (omega (arith, none))
]

module _ (graph : List (List ℕ)) where
  reaches_within : (f h : ℕ) → Reaches (calls_in graph) f h → Within (calls_in graph) (length graph) f h
  unfolding Joins
  reaches_within _ _ (by_call f h c) = from_call (calls_in graph) (length graph) f h c
  reaches_within _ _ (by_calls f g h c r) =
      through (calls_in graph) (length graph) f g h (is_function graph g (calls_some (calls_in graph) g h r))
      (from_call (calls_in graph) (length graph) f g c) (reaches_within g h r)

  pub reaches_decided : (f h : ℕ) → Decided (Reaches (calls_in graph) f h)
  reaches_decided f h = elim (within_decided (calls_in graph) (length graph) f h) [
    | inl w ↦ inl (within_reaches (calls_in graph) (length graph) f h w)
    | inr never ↦ inr (λ r. never (reaches_within f h r))
  ]

  -- some of these functions is the first that reaches itself, or none does
  pub first_or_none : (before fs : List ℕ) → All (λ f. Reaches (calls_in graph) f f → ⊥) before
      → ((f : ℕ) × IsFirstRecursive (calls_in graph) (before ++ fs) f) ⊎ All (λ f. Reaches (calls_in graph) f f → ⊥) (before ++ fs)
  first_or_none before [] none = inr (let P : List ℕ → Type 0 = λ xs. All (λ f. Reaches (calls_in graph) f f → ⊥) xs in subst P (sym (append-nil before)) none)
  first_or_none before (f ∷ fs) none = elim (reaches_decided f f) [
    | inl r ↦ inl (f, record { before = before; after = fs; stands = refl; recursive = r; none_before = none })
    | inr never ↦
        let P : List ℕ → Type 0 = λ xs. ((f : ℕ) × IsFirstRecursive (calls_in graph) xs f) ⊎ All (λ f. Reaches (calls_in graph) f f → ⊥) xs in
        subst P (append_assoc before (f ∷ []) fs) (first_or_none (before ++ f ∷ []) fs (All-push (λ f. Reaches (calls_in graph) f f → ⊥) before f none never))
  ]

  -- where each function that calls one is among the definitions
  pub first_or_acyclic : (definitions : List ℕ) → ((f : ℕ) → 0 < length (calls_in graph f) → Contains definitions f)
      → ((f : ℕ) × IsFirstRecursive (calls_in graph) definitions f) ⊎ ((f : ℕ) → Reaches (calls_in graph) f f → ⊥)
  first_or_acyclic definitions defined = elim (first_or_none [] definitions (All-nil (λ f. Reaches (calls_in graph) f f → ⊥))) [
    | inl found ↦ inl found
    | inr none ↦ inr (λ f r. All-contains (λ f. Reaches (calls_in graph) f f → ⊥) definitions f none (defined f (calls_some (calls_in graph) f f r)) r)
  ]
