-- Each edge that leaves a configured node has a copy there, for each answer.
use Rattle.std.specs.Prelude.{◌≡◌, ℕ, zero, suc, ◌+◌, ◌<◌, ◌==◌, ◌&&◌, Bool, true, cond, List}
use Rattle.std.specs.Prelude.{[], ◌∷◌, length, map, get_or, position, Some, Contains}
use Rattle.std.proofs.Common.{inl, inr, sym, ap, subst, ◌∙◌, arith}
use Rattle.std.proofs.lemmas.Bool.{eq-eqb, eqb-true, and_parts}
use Rattle.std.proofs.lemmas.List.{get_or_default, get_or-map, length-map}
use Rattle.std.proofs.lemmas.List.Elements.{Contains-append_left, Contains-append_right}
use Rattle.std.proofs.lemmas.List.Quantifiers.{position-Some}
use Rattle.program_shape.specs.flow_graph.declared.graphs.Edge.{Edge}
use Rattle.program_shape.specs.flow_graph.Graphs.{Edges, Among}
use Rattle.program_shape.specs.mutex_configs.declared.nodes.ConfiguredNode.{ConfiguredNode}
use Rattle.program_shape.specs.mutex_configs.declared.nodes.EdgeCopy.{EdgeCopy}
use Rattle.program_shape.specs.mutex_configs.Sets.{answers_of}
use Rattle.program_shape.specs.mutex_configs.Nodes.{entry_node, is_same_node, target, copy_of, copies_from, all_copies}
use Rattle.program_shape.proofs.low.mutex_configs.Searching.{node_is}
use Rattle.program_reports.specs.task_equations.Bodies.{Body, no_edge, no_copy, edge_of, node_at, copy_at}

pub same_node : (q r : ConfiguredNode) → is_same_node q r ≡ true → q ≡ r
same_node q r h =
    let one = and_parts (q.place == r.place) ((q.held == r.held) && (q.found == r.found)) h in
    let two = and_parts (q.held == r.held) (q.found == r.found) one.1 in
    node_is q r (eqb-true q.place r.place one.0) (eqb-true q.held r.held two.0) (eqb-true q.found r.found two.1)

-- the node with the number is the node
pub numbered : (nodes : List ConfiguredNode) (q : ConfiguredNode) (n : ℕ) → position (is_same_node q) nodes ≡ Some n
    → (n < length nodes) × (get_or nodes n entry_node ≡ q)
numbered nodes q n h =
    let k = position-Some (is_same_node q) nodes n entry_node h in
    (k.0, sym (same_node q (get_or nodes n entry_node) k.1))

contains_mapped : {A B : Type 0} (f : A → B) (xs : List A) (x : A) → Contains xs x → Contains (map f xs) (f x)
contains_mapped f xs x c =
    let lt : c.0 < length (map f xs) = subst (λ n. c.0 < n) (sym (length-map xs f)) c.1 in
    (c.0, lt, get_or-map f xs c.0 x (f x) c.1 ∙ ap f c.2)

-- among the copies from the nodes of a list is that from the node that stands there so far behind the first
copies_behind : (nodes : List ConfiguredNode) (k : ℕ) (e : Edge) (first : ℕ) (qs : List ConfiguredNode) (i : ℕ)
    → i < length qs → (q : ConfiguredNode) → get_or qs i entry_node ≡ q → e.from ≡ q.place → (answer : Bool)
    → Contains (answers_of e.op) answer
    → Contains (copies_from nodes k e first qs) (copy_of nodes k e (first + i) q answer)
copies_behind nodes k e first [] i lt q is from answer c = absurd (omega (arith, lt))
copies_behind nodes k e first (r ∷ qs) zero lt q is from answer c =
    let same : (r.place == e.from) ≡ true =
    eq-eqb r.place e.from (ap (λ (z : ConfiguredNode). z.place) is ∙ sym from) in
    let here : Contains (map (copy_of nodes k e first r) (answers_of e.op)) (copy_of nodes k e first r answer) =
    contains_mapped (copy_of nodes k e first r) (answers_of e.op) answer c in
    let there : Contains (cond (r.place == e.from) (map (copy_of nodes k e first r) (answers_of e.op)) [])
    (copy_of nodes k e first r answer) =
    subst (λ b. Contains (cond b (map (copy_of nodes k e first r) (answers_of e.op)) [])
    (copy_of nodes k e first r answer)) (sym same) here in
    let at : first ≡ first + 0 = omega arith in
    subst (λ j. Contains (copies_from nodes k e first (r ∷ qs)) (copy_of nodes k e j q answer)) at
    (subst (λ z. Contains (copies_from nodes k e first (r ∷ qs)) (copy_of nodes k e first z answer)) is
    (Contains-append_left (cond (r.place == e.from) (map (copy_of nodes k e first r) (answers_of e.op)) [])
    (copies_from nodes k e (suc first) qs) (copy_of nodes k e first r answer) there))
copies_behind nodes k e first (r ∷ qs) (suc i) lt q is from answer c =
    let rest = copies_behind nodes k e (suc first) qs i (let z : i < length qs = omega (arith, lt) in z) q is from
    answer c in
    let at : suc first + i ≡ first + suc i = omega arith in
    Contains-append_right (cond (r.place == e.from) (map (copy_of nodes k e first r) (answers_of e.op)) [])
    (copies_from nodes k e (suc first) qs) (copy_of nodes k e (first + suc i) q answer)
    (subst (λ j. Contains (copies_from nodes k e (suc first) qs) (copy_of nodes k e j q answer)) at rest)

-- an edge by its number, and its copies among all
pub record IsNumbered (nodes : List ConfiguredNode) (start : ℕ) (es : Edges) (e : Edge) : Type 0 where
  pub number : ℕ
  pub within : number < length es
  pub is : get_or es number no_edge ≡ e
  pub copies : (c : EdgeCopy) → Contains (copies_from nodes (start + number) e 0 nodes) c
      → Contains (all_copies nodes start es) c

pub numbered_edge : (nodes : List ConfiguredNode) (start : ℕ) (es : Edges) (e : Edge) → Among e es
    → IsNumbered nodes start es e
numbered_edge nodes start [] e a = absurd a
numbered_edge nodes start (d ∷ es) e (inl is) = record {
  number = 0;
  within = omega arith;
  is = is;
  copies = λ c h.
      let at : start + 0 ≡ start = omega arith in
      Contains-append_left (copies_from nodes start d 0 nodes) (all_copies nodes (suc start) es) c
      (subst (λ z. Contains (copies_from nodes start z 0 nodes) c) (sym is)
      (subst (λ j. Contains (copies_from nodes j e 0 nodes) c) at h));
}
numbered_edge nodes start (d ∷ es) e (inr a) = let r = numbered_edge nodes (suc start) es e a in record {
  number = suc r.number;
  within = let lt = r.within in omega (arith, lt);
  is = r.is;
  copies = λ c h.
      let at : start + suc r.number ≡ suc start + r.number = omega arith in
      Contains-append_right (copies_from nodes start d 0 nodes) (all_copies nodes (suc start) es) c
      (r.copies c (subst (λ j. Contains (copies_from nodes j e 0 nodes) c) at h));
}

-- the copy of an edge from a node
pub record IsCopyNumber (b : Body) (q : ConfiguredNode) (n : ℕ) (e : Edge) (answer : Bool) (k : ℕ) : Type 0 where
  pub within : k < length b.copies
  pub edge : edge_of b (copy_at b k) ≡ e
  pub from : (let c = copy_at b k in c.from ≡ n)
  pub node : node_at b n ≡ q
  pub answers : (let c = copy_at b k in c.answer ≡ answer)
  pub to : (let c = copy_at b k in c.to ≡ target b.nodes e.op answer q e.to)

pub copy_number : (b : Body) → b.copies ≡ all_copies b.nodes 0 b.edges → (q : ConfiguredNode) (n : ℕ)
    → position (is_same_node q) b.nodes ≡ Some n → (e : Edge) → Among e b.edges → e.from ≡ q.place
    → (answer : Bool) → Contains (answers_of e.op) answer → (k : ℕ) × IsCopyNumber b q n e answer k
copy_number b copies q n at e among from answer c =
    let node = numbered b.nodes q n at in
    let edge = numbered_edge b.nodes 0 b.edges e among in
    let copy = copy_of b.nodes (0 + edge.number) e (0 + n) q answer in
    let all : Contains (all_copies b.nodes 0 b.edges) copy =
    edge.copies copy (copies_behind b.nodes (0 + edge.number) e 0 b.nodes n node.0 q node.1 from answer c) in
    let own : Contains b.copies copy = subst (λ cs. Contains cs copy) (sym copies) all in
    let is : copy_at b own.0 ≡ copy = get_or_default b.copies own.0 no_copy copy own.1 ∙ own.2 in
    let zero_first : 0 + edge.number ≡ edge.number = omega arith in
    let zero_behind : 0 + n ≡ n = omega arith in (
      own.0,
      record {
        within = own.1;
        edge = ap (λ (z : EdgeCopy). get_or b.edges z.edge no_edge) is
            ∙ ap (λ j. get_or b.edges j no_edge) zero_first ∙ edge.is;
        from = ap (λ (z : EdgeCopy). z.from) is ∙ zero_behind;
        node = node.1;
        answers = ap (λ (z : EdgeCopy). z.answer) is;
        to = ap (λ (z : EdgeCopy). z.to) is;
      },
    )
