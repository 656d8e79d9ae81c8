-- How many edges a graph has at most, and how many copies.
use Rattle.std.specs.Prelude.{◌≡◌, ℕ, zero, suc, ◌+◌, ◌*◌, ◌<◌, ◌≤◌, ◌==◌, Bool, true, false, cond, List, [], ◌∷◌}
use Rattle.std.specs.Prelude.{if◌then◌else◌, length, map, All}
use Rattle.std.proofs.Common.{refl, sym, subst, arith, suc-mul}
use Rattle.std.proofs.lemmas.Bool.{eqb-false, cond_both}
use Rattle.std.proofs.lemmas.List.{length-append, length-map}
use Rattle.std.proofs.lemmas.List.Elements.{All-head, All-tail}
use Rattle.region_cells.specs.flow_graph.declared.graphs.Edge.{Edge}
use Rattle.region_cells.specs.flow_graph.declared.operations.Operation.{Operation}
use Rattle.region_cells.specs.flow_graph.Graphs.{Edges, leaving, IsFork, IsPlain}
use Rattle.program_graphs.specs.mutex_configs.declared.nodes.ConfiguredNode.{ConfiguredNode}
use Rattle.program_graphs.specs.mutex_configs.declared.nodes.EdgeCopy.{EdgeCopy}
use Rattle.program_graphs.specs.mutex_configs.Sets.{answers_of, is_probe}
use Rattle.program_graphs.specs.mutex_configs.Nodes.{copy_of, copies_from, all_copies}

-- ## Edges

-- the edges that do not leave a node
staying : ℕ → Edges → Edges
staying n [] = []
staying n (e ∷ g) = if e.from == n then staying n g else e ∷ staying n g

-- each edge leaves the node or does not
parted : (n : ℕ) (g : Edges) → length g ≡ length (leaving g n) + length (staying n g)
unfolding staying
parted n [] = refl
parted n (e ∷ g) = by (e.from == n) (parted n g)
  where
    by : (b : Bool) → length g ≡ length (leaving g n) + length (staying n g)
        → suc (length g) ≡ length (if b then e ∷ leaving g n else leaving g n)
        + length (if b then staying n g else e ∷ staying n g)
    by true h = omega (arith, h)
    by false h = omega (arith, h)

-- no more edges leave another node
fewer_leave : (n m : ℕ) (g : Edges) → length (leaving (staying n g) m) ≤ length (leaving g m)
unfolding staying
fewer_leave n m [] = omega arith
fewer_leave n m (e ∷ g) = by (e.from == n) (e.from == m) refl (fewer_leave n m g)
  where
    by : (b c : Bool) → (e.from == m) ≡ c → length (leaving (staying n g) m) ≤ length (leaving g m)
        → length (leaving (if b then staying n g else e ∷ staying n g) m)
        ≤ length (if c then e ∷ leaving g m else leaving g m)
    by true true f h = omega (arith, h)
    by true false f h = h
    by false true f h =
        subst (λ (d : Bool). length (if d then e ∷ leaving (staying n g) m else leaving (staying n g) m)
        ≤ suc (length (leaving g m))) (sym f) (omega (arith, h))
    by false false f h =
        subst (λ (d : Bool). length (if d then e ∷ leaving (staying n g) m else leaving (staying n g) m)
        ≤ length (leaving g m)) (sym f) h

-- each edge leaves a node below this number
abbrev AreBelow : ℕ → Edges → Type 0
AreBelow n [] = Unit {0}
AreBelow n (e ∷ g) = (e.from < n) × AreBelow n g

are_below : (n : ℕ) (g : Edges) → All (λ (e : Edge). e.from < n) g → AreBelow n g
are_below n [] h = tt
are_below n (e ∷ g) h =
    let P : Edge → Type 0 = λ f. f.from < n in
    (All-head P e g h, are_below n g (All-tail P e g h))

stay_below : (n : ℕ) (g : Edges) → AreBelow (suc n) g → AreBelow n (staying n g)
unfolding staying
stay_below n [] h = tt
stay_below n (e ∷ g) h = by (e.from == n) refl (stay_below n g h.1)
  where
    by : (b : Bool) → (e.from == n) ≡ b → AreBelow n (staying n g)
        → AreBelow n (if b then staying n g else e ∷ staying n g)
    by true x rest = rest
    by false x rest = (let lt = h.0 in let other = eqb-false e.from n x in omega (arith, lt, other), rest)

at_most_two : (g : Edges) (n : ℕ) → AreBelow n g → ((m : ℕ) → length (leaving g m) ≤ 2) → length g ≤ n + n
at_most_two [] n below two = omega arith
at_most_two (e ∷ g) zero below two = absurd (let lt = below.0 in omega (arith, lt))
at_most_two (e ∷ g) (suc n) below two =
    let all : Edges = e ∷ g in
    let parts = parted n all in
    let here = two n in
    let others = at_most_two (staying n all) n (stay_below n all below)
    (λ m. let fewer = fewer_leave n m all in let few = two m in omega (arith, fewer, few)) in
    omega (arith, parts, here, others)

forked : (g : Edges) → IsFork g → length g ≤ 2
forked [] h = omega arith
forked (e ∷ []) h = omega arith
forked (e ∷ f ∷ []) h = omega arith
forked (e ∷ f ∷ d ∷ g) h = absurd h

-- a plain graph has at most two edges for each node
pub few_edges : (g : Edges) (nodes : ℕ) → IsPlain g → All (λ (e : Edge). e.from < nodes) g → length g ≤ nodes + nodes
few_edges g nodes plain below = at_most_two g nodes (are_below nodes g below) (λ m. forked (leaving g m) (plain m))

-- ## Copies

module _ (nodes : List ConfiguredNode) where
  two_answers : (op : Operation) → length (answers_of op) ≤ 2
  two_answers op = by (is_probe op)
    where
      by : (b : Bool) → length (cond b (true ∷ false ∷ []) (true ∷ [])) ≤ 2
      by true = omega arith
      by false = omega arith

  few_from : (k : ℕ) (e : Edge) (n : ℕ) (qs : List ConfiguredNode)
      → length (copies_from nodes k e n qs) ≤ length qs + length qs
  few_from k e n [] = omega arith
  few_from k e n (q ∷ qs) =
      let own : List EdgeCopy = map (copy_of nodes k e n q) (answers_of e.op) in
      let all = length-append (cond (q.place == e.from) own []) (copies_from nodes k e (suc n) qs) in
      let mapped = length-map (answers_of e.op) (copy_of nodes k e n q) in
      let two = two_answers e.op in
      let here : length (cond (q.place == e.from) own []) ≤ 2 =
      cond_both (q.place == e.from) own [] (λ (cs : List EdgeCopy). length cs ≤ 2) (λ x. omega (arith, mapped, two))
      (λ x. omega arith) in
      let behind = few_from k e (suc n) qs in
      omega (arith, all, here, behind)

  -- each edge has at most two copies for each node
  pub few_copies : (k : ℕ) (g : Edges)
      → length (all_copies nodes k g) ≤ length g * (length nodes + length nodes)
  few_copies k [] = omega arith
  few_copies k (e ∷ g) =
      let all = length-append (copies_from nodes k e 0 nodes) (all_copies nodes (suc k) g) in
      let own = few_from k e 0 nodes in
      let others = few_copies (suc k) g in
      let product = suc-mul (length g) (length nodes + length nodes) in
      omega (arith, all, own, others, product)
