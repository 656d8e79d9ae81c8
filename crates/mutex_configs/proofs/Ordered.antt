-- Nodes in order: a list that is sorted and has no node twice.
use Rattle.std.proofs.Common.{◌≡◌, ◌≢◌, ◌∙◌, sym, ap, subst, ℕ, zero, suc, ◌+◌, ◌-◌, ◌<◌, ◌≤◌, ◌⊎◌, Bool, true, false, arith}
use Rattle.std.proofs.Common.{List, length, get_or, inl, inr, true≢false}
use Rattle.std.specs.List.{AllPairs}
use Rattle.std.specs.Ordering.{nat_cmp, ordering_then, is_lt}
use Rattle.std.specs.List.Sorted.{IsPermutation}
use Rattle.std.specs.declared.cmp.Ordering.{Ordering}
use Rattle.std.specs.declared.cmp.Ordering.TheVariants.{Less, Equal}
use Rattle.std.proofs.lemmas.Bool.{cases_lt}
use Rattle.std.proofs.lemmas.List.Sorted.{Contains-permutation, IsPermutation-sym}
use Rattle.std.proofs.lemmas.List.Elements.{All-contains}
use Rattle.tm_lattice.proofs.Merging.{cmp_less, cmp_equal}
use Rattle.flow_graph.specs.Graphs.{Edges}
use Rattle.mutex_configs.specs.declared.nodes.ConfiguredNode.{ConfiguredNode}
use Rattle.mutex_configs.specs.Nodes.{IsReached, IsBefore, AreNodes}
use Rattle.mutex_configs.specs.reading.Searches.{IsSearch}
use Rattle.mutex_configs.proofs.Searching.{node_is, all_found}

-- the order by which nodes are sorted
abbrev pub node_cmp : ConfiguredNode → ConfiguredNode → Ordering
node_cmp q r = ordering_then (nat_cmp q.place r.place) (ordering_then (nat_cmp q.held r.held) (nat_cmp q.found r.found))

-- ## Two nodes

by_numbers : (m n : ℕ) → (m < n) ⊎ ((m ≡ n) ⊎ (n < m))
by_numbers m n = elim (cases_lt m n) [
  | inl less ↦ inl less
  | inr least ↦ elim (cases_lt n m) [
    | inl more ↦ inr (inr more)
    | inr most ↦ inr (inl (omega (arith, least, most)))
  ]
]

first_less : (a b c : Ordering) → a ≡ Less → ordering_then a b ≡ Less
first_less a b c e = ap (λ x. ordering_then x b) e

then_less : (a b : Ordering) → a ≡ Equal → b ≡ Less → ordering_then a b ≡ Less
then_less a b e f = ap (λ x. ordering_then x b) e ∙ f

before_less : (q r : ConfiguredNode) → IsBefore q r → node_cmp q r ≡ Less
before_less q r (inl p) = first_less (nat_cmp q.place r.place) (ordering_then (nat_cmp q.held r.held) (nat_cmp q.found r.found)) Less (cmp_less q.place r.place p)
before_less q r (inr (e, inl h)) = then_less (nat_cmp q.place r.place) (ordering_then (nat_cmp q.held r.held) (nat_cmp q.found r.found)) (cmp_equal q.place r.place e)
    (first_less (nat_cmp q.held r.held) (nat_cmp q.found r.found) Less (cmp_less q.held r.held h))
before_less q r (inr (e, inr (f, g))) = then_less (nat_cmp q.place r.place) (ordering_then (nat_cmp q.held r.held) (nat_cmp q.found r.found)) (cmp_equal q.place r.place e)
    (then_less (nat_cmp q.held r.held) (nat_cmp q.found r.found) (cmp_equal q.held r.held f) (cmp_less q.found r.found g))

by_order : (q r : ConfiguredNode) → IsBefore q r ⊎ ((q ≡ r) ⊎ IsBefore r q)
by_order q r = elim (by_numbers q.place r.place) [
  | inl p ↦ inl (inl p)
  | inr (inr p) ↦ inr (inr (inl p))
  | inr (inl e) ↦ elim (by_numbers q.held r.held) [
    | inl h ↦ inl (inr (e, inl h))
    | inr (inr h) ↦ inr (inr (inr (sym e, inl h)))
    | inr (inl f) ↦ elim (by_numbers q.found r.found) [
      | inl g ↦ inl (inr (e, inr (f, g)))
      | inr (inr g) ↦ inr (inr (inr (sym e, inr (sym f, g))))
      | inr (inl g) ↦ inr (inl (node_is q r e f g))
    ]
  ]
]

true_false : (b : Bool) → b ≡ true → b ≡ false → ⊥
true_false b e f = true≢false (sym e ∙ f)

-- one that is not less than another comes behind it, or is the same
not_less : (q r : ConfiguredNode) → is_lt (node_cmp r q) ≡ false → q ≢ r → IsBefore q r
not_less q r e apart = elim (by_order q r) [
  | inl b ↦ b
  | inr (inl same) ↦ absurd (apart same)
  | inr (inr b) ↦ absurd (true_false (is_lt (node_cmp r q)) (ap is_lt (before_less r q b)) e)
]

before_trans : (q r s : ConfiguredNode) → IsBefore q r → IsBefore r s → IsBefore q s
before_trans q r s (inl p) (inl p') = inl (omega (arith, p, p'))
before_trans q r s (inl p) (inr (e, x)) = inl (omega (arith, p, e))
before_trans q r s (inr (e, x)) (inl p) = inl (omega (arith, p, e))
before_trans q r s (inr (e, inl h)) (inr (e', inl h')) = inr (e ∙ e', inl (omega (arith, h, h')))
before_trans q r s (inr (e, inl h)) (inr (e', inr (f', g'))) = inr (e ∙ e', inl (omega (arith, h, f')))
before_trans q r s (inr (e, inr (f, g))) (inr (e', inl h')) = inr (e ∙ e', inl (omega (arith, f, h')))
before_trans q r s (inr (e, inr (f, g))) (inr (e', inr (f', g'))) = inr (e ∙ e', inr (f ∙ f', omega (arith, g, g')))

-- ## Lists

module _ (nodes : List ConfiguredNode) (sorted : (k : ℕ) (d : ConfiguredNode) → 0 ≤ k → k + 1 < length nodes
    → is_lt (node_cmp (get_or nodes (k + 1) d) (get_or nodes k d)) ≡ false) (differ : AllPairs (λ q r. q ≢ r) nodes) where
  next_before : (k : ℕ) (d : ConfiguredNode) → k + 1 < length nodes → IsBefore (get_or nodes k d) (get_or nodes (k + 1) d)
  next_before k d lt = not_less (get_or nodes k d) (get_or nodes (k + 1) d) (sorted k d (let z : 0 ≤ k = omega (arith) in z) lt)
      (differ k (k + 1) d (let z : k < k + 1 = omega (arith) in z) lt)

  -- so many places behind it
  far_before : (n i : ℕ) (d : ConfiguredNode) → i + suc n < length nodes → IsBefore (get_or nodes i d) (get_or nodes (i + suc n) d)
  far_before zero i d lt = next_before i d lt
  far_before (suc n) i d lt = before_trans (get_or nodes i d) (get_or nodes (i + 1) d) (get_or nodes (i + suc (suc n)) d)
      (next_before i d (let z : i + 1 < length nodes = omega (arith, lt) in z))
      (subst (λ j. IsBefore (get_or nodes (i + 1) d) (get_or nodes j d)) (let z : (i + 1) + suc n ≡ i + suc (suc n) = omega (arith) in z)
      (far_before n (i + 1) d (let z : (i + 1) + suc n < length nodes = omega (arith, lt) in z)))

  pub in_order : AllPairs IsBefore nodes
  in_order i j d lt lt' =
      let n = j - suc i in
      let z : i + suc n ≡ j = omega (arith, lt) in
      subst (λ k. IsBefore (get_or nodes i d) (get_or nodes k d)) z (far_before n i d (omega (arith, z, lt')))

-- ## The nodes of a graph

module _ (g : Edges) (nodes sorted : List ConfiguredNode) (s : IsSearch g (length nodes) nodes) (same : IsPermutation nodes sorted) where
  pub all_nodes : AllPairs IsBefore sorted → AreNodes g sorted
  all_nodes in_order = record {
    reached = λ q. (
      (λ c. All-contains (IsReached g) nodes q s.reached (Contains-permutation sorted nodes q (IsPermutation-sym nodes sorted same) c)),
      (λ r. Contains-permutation nodes sorted q same (all_found g nodes s q r)),
    );
    in_order = in_order;
  }
