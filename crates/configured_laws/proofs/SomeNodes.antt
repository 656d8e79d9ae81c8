-- The nodes of a configured graph are found, or are more than a limit allows.
use Rattle.std.proofs.Common.{◌≡◌, ◌⊎◌, ◌∙◌, sym, ap, refl, subst, ℕ, zero, suc, ◌+◌, ◌<◌, ◌≤◌, ◌==◌, Bool, true}
use Rattle.std.proofs.Common.{false, cond, arith, List, [], ◌∷◌, ◌++◌, length, get_or, inl, inr, All, Contains, ◌&&◌}
use Rattle.std.specs.List.{list_any, IsDistinct}
use Rattle.std.specs.Cmp.{IsEquivalence}
use Rattle.std.proofs.lemmas.Map.Keys.{IsDistinct-push}
use Rattle.std.proofs.lemmas.List.{length-append}
use Rattle.std.proofs.lemmas.Bool.{cases_lt, cond_both, eq-eqb}
use Rattle.region_cells.specs.flow_graph.declared.graphs.Edge.{Edge}
use Rattle.region_cells.specs.flow_graph.Graphs.{Edges}
use Rattle.program_graphs.specs.mutex_configs.declared.nodes.ConfiguredNode.{ConfiguredNode}
use Rattle.program_graphs.specs.mutex_configs.Sets.{answers_of, leads_nowhere, node_after}
use Rattle.program_graphs.specs.mutex_configs.Nodes.{IsReached, IsBefore, AreNodes, HasMoreNodes, entry_node}
use Rattle.program_graphs.specs.mutex_configs.Nodes.{is_same_node}
use Rattle.program_graphs.specs.mutex_configs.reading.Groups.{numbers_of}
use Rattle.program_graphs.specs.mutex_configs.reading.Searches.{added, added_by, added_along, added_all, edge_at}
use Rattle.program_graphs.specs.mutex_configs.reading.Searches.{IsSearch}
use Rattle.program_graphs.proofs.low.mutex_configs.Searching.{node_is, same_is, first_node, one_done, all_done}
use Rattle.program_graphs.proofs.low.mutex_configs.Searching.{all_found, differ}
use Rattle.configured_laws.proofs.InOrder.{AreOrdered, ordered}

-- ## Nodes that differ

same_both : (x y : Bool) → x ≡ true → y ≡ true → (x && y) ≡ true
same_both true y e f = f
same_both false y e f = e

is_itself : (q : ConfiguredNode) → is_same_node q q ≡ true
is_itself q =
    same_both (q.place == q.place) ((q.held == q.held) && (q.found == q.found)) (eq-eqb q.place q.place refl)
    (same_both (q.held == q.held) (q.found == q.found) (eq-eqb q.held q.held refl) (eq-eqb q.found q.found refl))

from_same : (q r : ConfiguredNode) → q ≡ r → is_same_node q r ≡ true
from_same q r e = subst (λ (p : ConfiguredNode). is_same_node q p ≡ true) e (is_itself q)

by_each_way : (a b : Bool) → (a ≡ true → b ≡ true) → (b ≡ true → a ≡ true) → a ≡ b
by_each_way true b to from = sym (to refl)
by_each_way false true to from = from refl
by_each_way false false to from = refl

sameness : IsEquivalence is_same_node
sameness = record {
  refl = is_itself;
  symm = λ q r. by_each_way (is_same_node q r) (is_same_node r q) (λ e. from_same r q (sym (same_is q r e)))
      (λ e. from_same q r (sym (same_is r q e)));
  congr = λ q r s e. ap (λ (p : ConfiguredNode). is_same_node p s) (same_is q r e);
}

-- nodes that differ, at least as many as this number
record Differ (least : ℕ) (nodes : List ConfiguredNode) : Type 0 where
  many : least ≤ length nodes
  distinct : IsDistinct is_same_node nodes

-- ## The steps of the search keep that

module _ (least : ℕ) where
  differ_added : (nodes : List ConfiguredNode) (q : ConfiguredNode) → Differ least nodes → Differ least (added nodes q)
  differ_added nodes q d =
      cond_both (list_any (is_same_node q) nodes) nodes (nodes ++ q ∷ []) (λ more. Differ least more) (λ e. d)
      (λ e. record {
        many = (let m = d.many in let l = length-append nodes (q ∷ []) in omega (arith, m, l));
        distinct = IsDistinct-push sameness nodes q d.distinct e;
      })

  differ_by : (e : Edge) (q : ConfiguredNode) (nodes : List ConfiguredNode) (answers : List Bool)
      → Differ least nodes → Differ least (added_by nodes e q answers)
  differ_by e q nodes [] d = d
  differ_by e q nodes (answer ∷ answers) d =
      differ_by e q
      (cond (leads_nowhere e.op answer q.held) nodes (added nodes (node_after e.op answer q e.to))) answers
      (cond_both (leads_nowhere e.op answer q.held) nodes (added nodes (node_after e.op answer q e.to))
      (λ more. Differ least more) (λ x. d) (λ x. differ_added nodes (node_after e.op answer q e.to) d))

  differ_along : (e : Edge) (q : ConfiguredNode) (nodes : List ConfiguredNode) → Differ least nodes
      → Differ least (added_along nodes e q)
  unfolding added_along
  differ_along e q nodes d = differ_by e q nodes (answers_of e.op) d

  differ_all : (g : Edges) (q : ConfiguredNode) (nodes : List ConfiguredNode) (numbers : List ℕ)
      → Differ least nodes → Differ least (added_all g nodes numbers q)
  differ_all g q nodes [] d = d
  differ_all g q nodes (k ∷ ks) d =
      differ_all g q (added_along nodes (edge_at g k) q) ks (differ_along (edge_at g k) q nodes d)

-- ## The search

module _ (g : Edges) (most : ℕ) where
  -- the nodes as they are found, or that they are more
  abbrev IsEnded : Type 0
  IsEnded = ((nodes : List ConfiguredNode) × IsSearch g (length nodes) nodes × (length nodes ≤ most))
      ⊎ HasMoreNodes g most

  more_nodes : (nodes : List ConfiguredNode) → All (IsReached g) nodes → IsDistinct is_same_node nodes
      → most < length nodes → HasMoreNodes g most
  more_nodes nodes reached distinct more =
      record { nodes = nodes; different = differ nodes distinct; reached = reached; more = more }

  -- so many nodes are followed yet, after which there are more than the limit allows
  followed : (fuel done : ℕ) (nodes : List ConfiguredNode) → IsSearch g done nodes → Differ done nodes
      → most < done + fuel → IsEnded
  followed zero done nodes s d enough =
      inr (more_nodes nodes s.reached d.distinct (let m = d.many in omega (arith, m, enough)))
  followed (suc fuel) done nodes s d enough = elim (cases_lt done (length nodes)) [
    | inl within ↦
        (let q : ConfiguredNode = get_or nodes done entry_node in
        let numbers : List ℕ = numbers_of (λ (e : Edge). e.from) q.place 0 g in
        let more : List ConfiguredNode = added_all g nodes numbers q in
        let own : Differ (length nodes) nodes = record { many = omega arith; distinct = d.distinct } in
        let next : Differ (length nodes) more = differ_all (length nodes) g q nodes numbers own in
        let many = next.many in
        followed fuel (done + 1) more (one_done g done nodes more q s within refl numbers refl refl)
        (record { many = omega (arith, many, within); distinct = next.distinct }) (omega (arith, enough)))
    | inr past ↦ elim (cases_lt most (length nodes)) [
      | inl many ↦ inr (more_nodes nodes s.reached d.distinct many)
      | inr few ↦ inl (nodes, all_done g done nodes s past, few)
    ]
  ]

  ended : IsEnded
  unfolding IsDistinct
  ended =
      followed (suc most) 0 (added [] entry_node) (first_node g (added [] entry_node) refl)
      (differ_added 0 [] entry_node (record { many = omega arith; distinct = tt })) (omega arith)

-- ## Nodes in order

by_numbers : (m n : ℕ) → (m < n) ⊎ ((m ≡ n) ⊎ (n < m))
by_numbers m n = elim (cases_lt m n) [
  | inl less ↦ inl less
  | inr least ↦ elim (cases_lt n m) [
    | inl more ↦ inr (inr more)
    | inr most ↦ inr (inl (omega (arith, least, most)))
  ]
]

by_order : (q r : ConfiguredNode) → IsBefore q r ⊎ ((q ≡ r) ⊎ IsBefore r q)
by_order q r = elim (by_numbers q.place r.place) [
  | inl p ↦ inl (inl p)
  | inr (inr p) ↦ inr (inr (inl p))
  | inr (inl e) ↦ elim (by_numbers q.held r.held) [
    | inl h ↦ inl (inr (e, inl h))
    | inr (inr h) ↦ inr (inr (inr (sym e, inl h)))
    | inr (inl f) ↦ elim (by_numbers q.found r.found) [
      | inl g ↦ inl (inr (e, inr (f, g)))
      | inr (inr g) ↦ inr (inr (inr (sym e, inr (sym f, g))))
      | inr (inl g) ↦ inr (inl (node_is q r e f g))
    ]
  ]
]

through : (q r s : ConfiguredNode) → IsBefore q r → IsBefore r s → IsBefore q s
through q r s (inl p) (inl p') = inl (omega (arith, p, p'))
through q r s (inl p) (inr (e, x)) = inl (omega (arith, p, e))
through q r s (inr (e, x)) (inl p) = inl (omega (arith, p, e))
through q r s (inr (e, inl h)) (inr (e', inl h')) = inr (e ∙ e', inl (omega (arith, h, h')))
through q r s (inr (e, inl h)) (inr (e', inr (f', g'))) = inr (e ∙ e', inl (omega (arith, h, f')))
through q r s (inr (e, inr (f, g))) (inr (e', inl h')) = inr (e ∙ e', inl (omega (arith, f, h')))
through q r s (inr (e, inr (f, g))) (inr (e', inr (f', g'))) = inr (e ∙ e', inr (f ∙ f', omega (arith, g, g')))

-- the nodes of a graph are at most so many, or more
pub some_nodes : (g : Edges) (most : ℕ)
    → ((nodes : List ConfiguredNode) × AreNodes g nodes × (length nodes ≤ most)) ⊎ HasMoreNodes g most
some_nodes g most = elim (ended g most) [
  | inr more ↦ inr more
  | inl (nodes, search, few) ↦
      (let r = ordered IsBefore by_order through nodes in
      let sorted : List ConfiguredNode = r.0 in
      let is : AreOrdered IsBefore by_order through nodes sorted = r.1 in
      let all : All (IsReached g) nodes = search.reached in
      inl (
        sorted,
        record {
          reached = λ q. (
            (λ c. reached_in nodes all q (is.only q c)),
            (λ h. is.kept q (all_found g nodes search q h)),
          );
          in_order = is.pairs;
        },
        (let l = is.long in omega (arith, l, few)),
      ))
]
  where
    reached_in : (nodes : List ConfiguredNode) → All (IsReached g) nodes → (q : ConfiguredNode) → Contains nodes q
        → IsReached g q
    reached_in nodes all q (k, lt, e) = subst (IsReached g) e (all k q lt)
