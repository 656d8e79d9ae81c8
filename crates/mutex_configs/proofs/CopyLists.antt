-- Copies of edges, from all nodes and from those at one place.
use Rattle.std.proofs.Common.{◌≡◌, ◌∙◌, sym, ap, refl, subst, ℕ, suc, ◌+◌, ◌<◌, ◌==◌, Bool, true, false, cond, arith}
use Rattle.std.proofs.Common.{List, [], ◌∷◌, ◌++◌, length, map, get_or, drop, All}
use Rattle.std.specs.Prelude.{Vec}
use Rattle.std.specs.declared.alloc.Global.{Global}
use Rattle.std.proofs.Math.Seq.{drop-cons}
use Rattle.std.proofs.lemmas.List.{append_assoc}
use Rattle.flow_graph.specs.declared.graphs.Edge.{Edge}
use Rattle.flow_graph.specs.Graphs.{Edges}
use Rattle.mutex_configs.specs.declared.nodes.ConfiguredNode.{ConfiguredNode}
use Rattle.mutex_configs.specs.declared.nodes.EdgeCopy.{EdgeCopy}
use Rattle.mutex_configs.specs.Sets.{is_probe, answers_of}
use Rattle.mutex_configs.specs.Nodes.{entry_node, copy_of, copies_from, all_copies}
use Rattle.mutex_configs.specs.reading.Groups.{numbers_of, AreGroups}
use Rattle.mutex_configs.proofs.Grouping.{numbers_at, numbers_below}
use Rattle.mutex_configs.specs.reading.Copying.{copies_of_node, copies_at}

-- the copies from one node
pub two_copies : (nodes : List ConfiguredNode) (k : ℕ) (e : Edge) (n : ℕ) → is_probe e.op ≡ true
    → copy_of nodes k e n (get_or nodes n entry_node) true ∷ copy_of nodes k e n (get_or nodes n entry_node) false ∷ []
    ≡ copies_of_node nodes k e n
unfolding copies_of_node
two_copies nodes k e n is = ap (λ b. map (copy_of nodes k e n (get_or nodes n entry_node)) (cond b (true ∷ false ∷ []) (true ∷ []))) (sym is)

pub one_copy : (nodes : List ConfiguredNode) (k : ℕ) (e : Edge) (n : ℕ) → is_probe e.op ≡ false
    → copy_of nodes k e n (get_or nodes n entry_node) true ∷ [] ≡ copies_of_node nodes k e n
unfolding copies_of_node
one_copy nodes k e n is = ap (λ b. map (copy_of nodes k e n (get_or nodes n entry_node)) (cond b (true ∷ false ∷ []) (true ∷ []))) (sym is)

-- one more node, and one more edge
pub next_node : (before : List EdgeCopy) (nodes : List ConfiguredNode) (k : ℕ) (e : Edge) (ns : List ℕ) (i d : ℕ) → i < length ns
    → (before ++ copies_of_node nodes k e (get_or ns i d)) ++ copies_at nodes k e (drop (i + 1) ns)
    ≡ before ++ copies_at nodes k e (drop i ns)
next_node before nodes k e ns i d lt =
    append_assoc before (copies_of_node nodes k e (get_or ns i d)) (copies_at nodes k e (drop (i + 1) ns))
    ∙ ap (λ j. before ++ (copies_of_node nodes k e (get_or ns i d) ++ copies_at nodes k e (drop j ns))) (let z : i + 1 ≡ suc i = omega (arith) in z)
    ∙ ap (λ ms. before ++ copies_at nodes k e ms) (sym (drop-cons ns i d lt))

-- the copies from the nodes at the place that an edge leaves
cond_at : (b : Bool) (nodes : List ConfiguredNode) (k : ℕ) (e : Edge) (n : ℕ) (ns : List ℕ) (rest : List EdgeCopy)
    → rest ≡ copies_at nodes k e ns
    → cond b (copies_of_node nodes k e n) [] ++ rest ≡ copies_at nodes k e (cond b (n ∷ ns) ns)
cond_at true nodes k e n ns rest x = ap (λ cs. copies_of_node nodes k e n ++ cs) x
cond_at false nodes k e n ns rest x = x

here_copies : (nodes : List ConfiguredNode) (k : ℕ) (e : Edge) (n : ℕ) (q : ConfiguredNode) → get_or nodes n entry_node ≡ q
    → map (copy_of nodes k e n q) (answers_of e.op) ≡ copies_of_node nodes k e n
unfolding copies_of_node
here_copies nodes k e n q is = ap (λ (r : ConfiguredNode). map (copy_of nodes k e n r) (answers_of e.op)) (sym is)

from_place : (nodes : List ConfiguredNode) (k : ℕ) (e : Edge) (n : ℕ) (qs : List ConfiguredNode)
    → ((i : ℕ) → i < length qs → get_or nodes (n + i) entry_node ≡ get_or qs i entry_node)
    → copies_from nodes k e n qs ≡ copies_at nodes k e (numbers_of (λ (q : ConfiguredNode). q.place) e.from n qs)
from_place nodes k e n [] same = refl
from_place nodes k e n (q ∷ qs) same =
    ap (λ cs. cond (q.place == e.from) cs [] ++ copies_from nodes k e (suc n) qs)
    (here_copies nodes k e n q (ap (λ j. get_or nodes j entry_node) (let z : n ≡ n + 0 = omega (arith) in z) ∙ same 0 (let z : 0 < suc (length qs) = omega (arith) in z)))
    ∙ cond_at (q.place == e.from) nodes k e n (numbers_of (λ (r : ConfiguredNode). r.place) e.from (suc n) qs) (copies_from nodes k e (suc n) qs)
    (from_place nodes k e (suc n) qs (λ i lt. ap (λ j. get_or nodes j entry_node) (let z : suc n + i ≡ n + suc i = omega (arith) in z)
    ∙ same (suc i) (let z : suc i < suc (length qs) = omega (arith, lt) in z)))

pub edge_copies : (nodes : List ConfiguredNode) (k : ℕ) (e : Edge) (ns : List ℕ) → ns ≡ numbers_of (λ (q : ConfiguredNode). q.place) e.from 0 nodes
    → copies_at nodes k e ns ≡ copies_from nodes k e 0 nodes
edge_copies nodes k e ns is = ap (copies_at nodes k e) is
    ∙ sym (from_place nodes k e 0 nodes (λ i lt. ap (λ j. get_or nodes j entry_node) (let z : 0 + i ≡ i = omega (arith) in z)))

pub next_edge : (before : List EdgeCopy) (nodes : List ConfiguredNode) (g : Edges) (k : ℕ) (d : Edge) (here : List EdgeCopy) → k < length g
    → here ≡ copies_from nodes k (get_or g k d) 0 nodes
    → (before ++ here) ++ all_copies nodes (k + 1) (drop (k + 1) g) ≡ before ++ all_copies nodes k (drop k g)
next_edge before nodes g k d here lt is =
    append_assoc before here (all_copies nodes (k + 1) (drop (k + 1) g))
    ∙ ap (λ cs. before ++ (cs ++ all_copies nodes (k + 1) (drop (k + 1) g))) is
    ∙ ap (λ j. before ++ (copies_from nodes k (get_or g k d) 0 nodes ++ all_copies nodes j (drop j g))) (let z : k + 1 ≡ suc k = omega (arith) in z)
    ∙ ap (λ es. before ++ all_copies nodes k es) (sym (drop-cons g k d lt))

module _ (before once : List EdgeCopy) (nodes slice : List ConfiguredNode) (same : slice ≡ nodes) (k : ℕ) (e : Edge) (n : ℕ) (x : EdgeCopy)
    (first : once ≡ before ++ x ∷ []) (is : x ≡ copy_of nodes k e n (get_or slice n entry_node) true) where
  looked : (answer : Bool) → copy_of nodes k e n (get_or slice n entry_node) answer ≡ copy_of nodes k e n (get_or nodes n entry_node) answer
  looked answer = ap (λ (ns : List ConfiguredNode). copy_of nodes k e n (get_or ns n entry_node) answer) same

  pub pushed_once : is_probe e.op ≡ false → once ≡ before ++ copies_of_node nodes k e n
  pushed_once tells = first ∙ ap (λ (y : EdgeCopy). before ++ y ∷ []) (is ∙ looked true) ∙ ap (λ cs. before ++ cs) (one_copy nodes k e n tells)

  pub pushed_twice : (twice : List EdgeCopy) (y : EdgeCopy) → twice ≡ once ++ y ∷ [] → y ≡ copy_of nodes k e n (get_or slice n entry_node) false
      → is_probe e.op ≡ true → twice ≡ before ++ copies_of_node nodes k e n
  pushed_twice twice y second other asks =
      second ∙ ap (λ cs. cs ++ y ∷ []) first ∙ append_assoc before (x ∷ []) (y ∷ [])
      ∙ ap (λ (z : EdgeCopy). before ++ z ∷ y ∷ []) (is ∙ looked true)
      ∙ ap (λ (z : EdgeCopy). before ++ copy_of nodes k e n (get_or nodes n entry_node) true ∷ z ∷ []) (other ∙ looked false)
      ∙ ap (λ cs. before ++ cs) (two_copies nodes k e n asks)

-- ## The turns of the loop over edges

module _ (g looked : Edges) (edge : Edge) (k places : ℕ) (d : Edge) (nodes slice : List ConfiguredNode) (groups : List (Vec ℕ Global))
    (same : slice ≡ nodes) (h : AreGroups (λ (q : ConfiguredNode). q.place) slice places groups) (lt : k < length g)
    (is : edge ≡ get_or g k d) (from : All (λ (e : Edge). e.from < places) g) (v : Vec ℕ Global) (at : v ≡ get_or groups edge.from v)
    (ns : List ℕ) (listed : ns ≡ v.items) where
  within : edge.from < places
  within = subst (λ (e : Edge). e.from < places) (sym is) (from k d lt)

  numbers_are : ns ≡ numbers_of (λ (q : ConfiguredNode). q.place) edge.from 0 nodes
  numbers_are = listed ∙ numbers_at (λ (q : ConfiguredNode). q.place) slice places groups edge.from v h within at
      ∙ ap (numbers_of (λ (q : ConfiguredNode). q.place) edge.from 0) same

  pub all_within : All (λ n. n < length nodes) ns
  all_within = subst (λ ms. All (λ n. n < length nodes) ms) (sym numbers_are)
      (numbers_below (λ (q : ConfiguredNode). q.place) edge.from 0 (length nodes) nodes (omega (arith)))

  pub edge_done : (before after whole : List EdgeCopy) → after ≡ before ++ copies_at nodes k edge ns
      → before ++ all_copies nodes k (drop k g) ≡ whole → after ++ all_copies nodes (k + 1) (drop (k + 1) g) ≡ whole
  edge_done before after whole pushed inv =
      ap (λ cs. cs ++ all_copies nodes (k + 1) (drop (k + 1) g)) pushed
      ∙ next_edge before nodes g k d (copies_at nodes k edge ns) lt
      (edge_copies nodes k edge ns numbers_are ∙ ap (λ (e : Edge). copies_from nodes k e 0 nodes) is)
      ∙ inv
