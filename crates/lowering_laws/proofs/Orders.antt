-- Functions of which none reaches itself have an order with callees first: one by how many functions each reaches.
use Rattle.std.proofs.Common.{◌≡◌, inl, inr, ℕ, zero, suc, ◌+◌, ◌<◌, ◌≤◌, List, [], ◌∷◌, ◌++◌, length, get_or}
use Rattle.std.proofs.Common.{refl, sym, subst, arith}
use Rattle.std.specs.Prelude.{All, Contains}
use Rattle.std.proofs.lemmas.Bool.{cases_lt, cases_eq}
use Rattle.std.proofs.lemmas.List.{append_assoc, append-nil}
use Rattle.std.proofs.lemmas.List.Elements.{All-nil, All-cons, All-head, All-tail, All-append, All-weaker}
use Rattle.std.proofs.lemmas.List.Elements.{Contains-get_or, Contains-append_left, Contains-append_right}
use Rattle.call_graph.specs.tm_typed.CallGraph.{Reaches, by_call, by_calls, AreBehind, calls_in}
use Rattle.call_graph.specs.Orders.{IsWholeOrder}
use Rattle.typed_file_laws.proofs.low.typing_laws.Reaching.{Decided, reaches_decided}

-- ## Orders

-- functions stand behind others that have all of their callees
behind_all : (calls : ℕ → List ℕ) (before xs : List ℕ) → All (λ f. All (Contains before) (calls f)) xs
    → AreBehind calls before xs
behind_all calls before [] h = tt
behind_all calls before (f ∷ fs) h =
    let P : ℕ → Type 0 = λ x. All (Contains before) (calls x) in
    let Q : ℕ → Type 0 = λ x. All (Contains (before ++ f ∷ [])) (calls x) in
    let more : (x : ℕ) → P x → Q x = λ x a. All-weaker (Contains before) (Contains (before ++ f ∷ []))
    (λ y c. Contains-append_left before (f ∷ []) y c) (calls x) a in
    (All-head P f fs h, behind_all calls (before ++ f ∷ []) fs (All-weaker P Q more fs (All-tail P f fs h)))

behind_append : (calls : ℕ → List ℕ) (before xs ys : List ℕ) → AreBehind calls before xs
    → AreBehind calls (before ++ xs) ys → AreBehind calls before (xs ++ ys)
behind_append calls before [] ys h k = subst (λ b. AreBehind calls b ys) (append-nil before) k
behind_append calls before (x ∷ xs) ys h k = (
  h.0,
  behind_append calls (before ++ x ∷ []) xs ys h.1
      (subst (λ b. AreBehind calls b ys) (sym (append_assoc before (x ∷ []) xs)) k),
)

-- ## What holds, counted

abbrev counted : {P : Type 0} → Decided P → ℕ
counted (inl p) = 1
counted (inr p) = 0

counted_most : {P : Type 0} (d : Decided P) → counted d ≤ 1
counted_most (inl p) = omega arith
counted_most (inr p) = omega arith

counted_le : {P Q : Type 0} (d : Decided P) (e : Decided Q) → (P → Q) → counted d ≤ counted e
counted_le (inl p) (inl q) f = omega arith
counted_le (inl p) (inr q) f = absurd (q (f p))
counted_le (inr p) e f = omega arith

counted_lt : {P Q : Type 0} (d : Decided P) (e : Decided Q) → (P → ⊥) → Q → counted d < counted e
counted_lt (inl p) e never q = absurd (never p)
counted_lt (inr p) (inl r) never q = omega arith
counted_lt (inr p) (inr r) never q = absurd (r q)

-- ## Lists with what holds

-- the number stands before the others, where this holds
abbrev with_if : {P : Type 0} → Decided P → ℕ → List ℕ → List ℕ
with_if (inl p) n ns = n ∷ ns
with_if (inr p) n ns = ns

with_all : {P : Type 0} (Q : ℕ → Type 0) (d : Decided P) (n : ℕ) (ns : List ℕ) → (P → Q n) → All Q ns
    → All Q (with_if d n ns)
with_all Q (inl p) n ns f h = All-cons Q n ns (f p) h
with_all Q (inr p) n ns f h = h

with_old : {P : Type 0} (d : Decided P) (n : ℕ) (ns : List ℕ) (x : ℕ) → Contains ns x → Contains (with_if d n ns) x
with_old (inl p) n ns x c = (suc c.0, (let l = c.1 in omega (arith, l)), c.2)
with_old (inr p) n ns x c = c

with_new : {P : Type 0} (d : Decided P) (n : ℕ) (ns : List ℕ) → P → Contains (with_if d n ns) n
with_new (inl p) n ns h = (zero, omega arith, refl)
with_new (inr p) n ns h = absurd (p h)

less_of : (f n : ℕ) → f < suc n → (f ≡ n → ⊥) → f < n
less_of f n l other = elim (cases_lt f n) [ inl less ↦ less | inr more ↦ absurd (other (omega (arith, l, more))) ]

-- ## Ranks

module _ (graph : List (List ℕ)) where
  -- how many of the functions below n a function reaches
  rank : ℕ → ℕ → ℕ
  rank zero f = 0
  rank (suc n) f = rank n f + counted (reaches_decided graph f n)

  rank_most : (n f : ℕ) → rank n f ≤ n
  unfolding rank
  rank_most zero f = omega arith
  rank_most (suc n) f = let a = rank_most n f in let b = counted_most (reaches_decided graph f n) in omega (arith, a, b)

  rank_le : (n f g : ℕ) → Contains (calls_in graph f) g → rank n g ≤ rank n f
  unfolding rank
  rank_le zero f g c = omega arith
  rank_le (suc n) f g c =
      let a = rank_le n f g c in
      let b = counted_le (reaches_decided graph g n) (reaches_decided graph f n) (λ r. by_calls f g n c r) in
      omega (arith, a, b)

  module _ (acyclic : (f : ℕ) → Reaches (calls_in graph) f f → ⊥) where
    -- a callee reaches fewer
    rank_lt : (n f g : ℕ) → Contains (calls_in graph f) g → g < n → rank n g < rank n f
    unfolding rank
    rank_lt zero f g c l = absurd (omega (arith, l))
    rank_lt (suc n) f g c l = elim (cases_eq g n) [
      | inl e ↦
          let never : Reaches (calls_in graph) g n → ⊥ = λ r. acyclic g
          (subst (λ x. Reaches (calls_in graph) g x) (sym e) r) in
          let some : Reaches (calls_in graph) f n = subst (λ x. Reaches (calls_in graph) f x) e (by_call f g c) in
          let a = rank_le n f g c in
          let b = counted_lt (reaches_decided graph g n) (reaches_decided graph f n) never some in
          omega (arith, a, b)
      | inr other ↦
          let a = rank_lt n f g c (less_of g n l other) in
          let b = counted_le (reaches_decided graph g n) (reaches_decided graph f n) (λ r. by_calls f g n c r) in
          omega (arith, a, b)
    ]

  -- ## The order

  abbrev rank_of : ℕ → ℕ
  rank_of f = rank (length graph) f

  abbrev HasRank : ℕ → ℕ → Type 0
  HasRank k f = (rank_of f ≡ k) × (f < length graph)

  -- the functions below n of this rank
  those : ℕ → ℕ → List ℕ
  those k zero = []
  those k (suc n) = with_if (cases_eq (rank_of n) k) n (those k n)

  those_all : (k n : ℕ) → n ≤ length graph → All (HasRank k) (those k n)
  unfolding those
  those_all k zero l = All-nil (HasRank k)
  those_all k (suc n) l =
      with_all (HasRank k) (cases_eq (rank_of n) k) n (those k n) (λ e. (e, omega (arith, l)))
      (those_all k n (omega (arith, l)))

  those_whole : (k n f : ℕ) → f < n → rank_of f ≡ k → Contains (those k n) f
  unfolding those
  those_whole k zero f l e = absurd (omega (arith, l))
  those_whole k (suc n) f l e = elim (cases_eq f n) [
    | inl same ↦
        subst (λ x. Contains (with_if (cases_eq (rank_of n) k) n (those k n)) x) (sym same)
        (with_new (cases_eq (rank_of n) k) n (those k n) (subst (λ x. rank_of x ≡ k) same e))
    | inr other ↦
        with_old (cases_eq (rank_of n) k) n (those k n) f (those_whole k n f (less_of f n l other) e)
  ]

  -- the functions of ranks below k
  order_to : ℕ → List ℕ
  order_to zero = []
  order_to (suc k) = order_to k ++ those k (length graph)

  order_whole : (k f : ℕ) → f < length graph → rank_of f < k → Contains (order_to k) f
  unfolding order_to
  order_whole zero f l r = absurd (omega (arith, r))
  order_whole (suc k) f l r = elim (cases_eq (rank_of f) k) [
    | inl e ↦ Contains-append_right (order_to k) (those k (length graph)) f (those_whole k (length graph) f l e)
    | inr other ↦
        Contains-append_left (order_to k) (those k (length graph)) f
        (order_whole k f l (less_of (rank_of f) k r other))
  ]

  order_within : (k : ℕ) → All (λ f. f < length graph) (order_to k)
  unfolding order_to
  order_within zero = All-nil (λ f. f < length graph)
  order_within (suc k) =
      All-append (λ f. f < length graph) (order_to k) (those k (length graph)) (order_within k)
      (All-weaker (HasRank k) (λ f. f < length graph) (λ f h. h.1) (those k (length graph))
      (those_all k (length graph) (omega arith)))

  module _ (acyclic : (f : ℕ) → Reaches (calls_in graph) f f → ⊥) (inside : All (All (λ g. g < length graph)) graph)
    where
      callees_before : (k f : ℕ) → HasRank k f → All (Contains (order_to k)) (calls_in graph f)
      callees_before k f h i d l =
          let g : ℕ = get_or (calls_in graph f) i d in
          let c : Contains (calls_in graph f) g = Contains-get_or (calls_in graph f) i d l in
          let there : g < length graph = inside f [] h.1 i d l in
          let less = rank_lt acyclic (length graph) f g c there in
          let e = h.0 in
          order_whole k g there (omega (arith, less, e))

      order_behind : (k : ℕ) → AreBehind (calls_in graph) [] (order_to k)
      unfolding order_to
      order_behind zero = tt
      order_behind (suc k) =
          behind_append (calls_in graph) [] (order_to k) (those k (length graph)) (order_behind k)
          (behind_all (calls_in graph) (order_to k) (those k (length graph))
          (All-weaker (HasRank k) (λ f. All (Contains (order_to k)) (calls_in graph f)) (callees_before k)
          (those k (length graph)) (those_all k (length graph) (omega arith))))

      pub whole_order : (order : List ℕ) × IsWholeOrder graph order
      whole_order = (
        order_to (suc (length graph)),
        record {
          callees_first = order_behind (suc (length graph));
          within = order_within (suc (length graph));
          whole = λ f l. order_whole (suc (length graph)) f l
              (let a = rank_most (length graph) f in omega (arith, a));
        },
      )
