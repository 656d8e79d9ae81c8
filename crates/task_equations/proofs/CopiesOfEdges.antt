-- The copies of a configured graph are copies of its edges, between its nodes.
use Rattle.std.specs.Prelude.{◌≡◌, ℕ, zero, suc, ◌+◌, ◌==◌, ◌<◌, Bool, true, false, cond, List, [], ◌∷◌, ◌++◌}
use Rattle.std.specs.Prelude.{length, map, get_or, position, All, Option, Some, None, refl}
use Rattle.std.proofs.Common.{sym, ap, subst, ◌∙◌, arith}
use Rattle.std.proofs.lemmas.Bool.{eqb-true, cond_both}
use Rattle.std.proofs.lemmas.List.Elements.{All-nil, All-append, All-map}
use Rattle.std.proofs.lemmas.List.Quantifiers.{position-Some}
use Rattle.mutex_configs.specs.flow_graph.declared.graphs.Edge.{Edge}
use Rattle.mutex_configs.specs.flow_graph.declared.operations.Operation.{Operation}
use Rattle.mutex_configs.specs.flow_graph.Graphs.{Edges}
use Rattle.mutex_configs.specs.declared.nodes.ConfiguredNode.{ConfiguredNode}
use Rattle.mutex_configs.specs.declared.nodes.EdgeCopy.{EdgeCopy}
use Rattle.mutex_configs.specs.Sets.{answers_of, leads_nowhere, node_after}
use Rattle.mutex_configs.specs.Nodes.{entry_node, is_same_node, target, copy_of, copies_from, all_copies}
use Rattle.mutex_configs.proofs.Searching.{same_is}
use Rattle.task_equations.specs.Bodies.{Body, no_edge, node_at}
use Rattle.task_equations.specs.Premises.{IsCopyOf}

-- ## What is left of a list behind its first elements

IsRest : {A : Type 0} → A → List A → ℕ → List A → Type 0
IsRest d xs n ys = (i : ℕ) → i < length ys → (n + i < length xs) × (get_or xs (n + i) d ≡ get_or ys i d)

rest_whole : {A : Type 0} (d : A) (xs : List A) → IsRest d xs 0 xs
unfolding IsRest
rest_whole d xs i lt =
    (omega (arith, lt), ap (λ j. get_or xs j d) (let z : 0 + i ≡ i = omega (arith) in z))

rest_first : {A : Type 0} (d : A) (xs : List A) (n : ℕ) (y : A) (ys : List A) → IsRest d xs n (y ∷ ys)
    → (n < length xs) × (get_or xs n d ≡ y)
unfolding IsRest
rest_first d xs n y ys h =
    let first = h 0 (let z : 0 < suc (length ys) = omega (arith) in z) in
    let within = first.0 in
    (omega (arith, within), ap (λ j. get_or xs j d) (let z : n ≡ n + 0 = omega (arith) in z) ∙ first.1)

rest_next : {A : Type 0} (d : A) (xs : List A) (n : ℕ) (y : A) (ys : List A) → IsRest d xs n (y ∷ ys)
    → IsRest d xs (suc n) ys
unfolding IsRest
rest_next d xs n y ys h i lt =
    let next = h (suc i) (let z : suc i < suc (length ys) = omega (arith, lt) in z) in
    let within = next.0 in
    let same : suc n + i ≡ n + suc i = omega (arith) in
    (omega (arith, within), ap (λ j. get_or xs j d) same ∙ next.1)

-- ## Copies

module _ (b : Body) where
  leads_to : (op : Operation) (answer : Bool) (q : ConfiguredNode) (place n : ℕ)
      → target b.nodes op answer q place ≡ Some n
      → (n < length b.nodes) × (let r = node_at b n in r.place ≡ place)
  leads_to op answer q place n e = by (leads_nowhere op answer q.held) e
    where
      by : (no : Bool) → cond no None (position (is_same_node (node_after op answer q place)) b.nodes) ≡ Some n
          → (n < length b.nodes) × (let r = node_at b n in r.place ≡ place)
      by true e = absurd (let k : (let none : Option ℕ = None in none ≡ Some n) = e in cc)
      by false e =
          let at = position-Some (is_same_node (node_after op answer q place)) b.nodes n entry_node e in
          (at.0, ap (λ (r : ConfiguredNode). r.place) (sym (same_is (node_after op answer q place) (node_at b n) at.1)))

  copy_is : (k n : ℕ) (e : Edge) (q : ConfiguredNode) (answer : Bool) → (k < length b.edges)
      × (get_or b.edges k no_edge ≡ e) → (n < length b.nodes) × (get_or b.nodes n entry_node ≡ q)
      → q.place ≡ e.from → IsCopyOf b (copy_of b.nodes k e n q answer)
  copy_is k n e q answer edge node there = record {
    edge = edge.0;
    from = node.0;
    leaves = ap (λ (r : ConfiguredNode). r.place) node.1 ∙ there ∙ ap (λ (f : Edge). f.from) (sym edge.1);
    to = λ m t. (leads_to e.op answer q e.to m t).0;
    leads = λ m t. (leads_to e.op answer q e.to m t).1 ∙ ap (λ (f : Edge). f.to) (sym edge.1);
  }

  from_are : (k : ℕ) (e : Edge) → (k < length b.edges) × (get_or b.edges k no_edge ≡ e) → (n : ℕ)
      (qs : List ConfiguredNode) → IsRest entry_node b.nodes n qs
      → All (IsCopyOf b) (copies_from b.nodes k e n qs)
  from_are k e edge n [] rest = All-nil (IsCopyOf b)
  from_are k e edge n (q ∷ qs) rest = All-append (IsCopyOf b)
      (cond (q.place == e.from) (map (copy_of b.nodes k e n q) (answers_of e.op)) [])
      (copies_from b.nodes k e (suc n) qs)
      (cond_both (q.place == e.from) (map (copy_of b.nodes k e n q) (answers_of e.op)) [] (All (IsCopyOf b))
      (λ there. All-map (IsCopyOf b) (copy_of b.nodes k e n q) (answers_of e.op)
      (λ j d lt. copy_is k n e q (get_or (answers_of e.op) j d) edge (rest_first entry_node b.nodes n q qs rest)
      (eqb-true q.place e.from there)))
      (λ elsewhere. All-nil (IsCopyOf b)))
      (from_are k e edge (suc n) qs (rest_next entry_node b.nodes n q qs rest))

  all_are : (k : ℕ) (es : Edges) → IsRest no_edge b.edges k es → All (IsCopyOf b) (all_copies b.nodes k es)
  all_are k [] rest = All-nil (IsCopyOf b)
  all_are k (e ∷ es) rest = All-append (IsCopyOf b) (copies_from b.nodes k e 0 b.nodes) (all_copies b.nodes (suc k) es)
      (from_are k e (rest_first no_edge b.edges k e es rest) 0 b.nodes (rest_whole entry_node b.nodes))
      (all_are (suc k) es (rest_next no_edge b.edges k e es rest))

  pub copies_are : b.copies ≡ all_copies b.nodes 0 b.edges → All (IsCopyOf b) b.copies
  copies_are e = subst (λ cs. All (IsCopyOf b) cs) (sym e) (all_are 0 b.edges (rest_whole no_edge b.edges))
