-- Graphs have one answer: their configured graphs, or the first limit that these exceed.
use Rattle.std.specs.Prelude.{◌≡◌, ◌≢◌, ◌⊎◌, ℕ, zero, suc, ◌+◌, ◌*◌, ◌<◌, ◌≤◌, List, [], ◌∷◌, length, get_or}
use Rattle.std.specs.Prelude.{AllPairs, Contains}
use Rattle.std.proofs.Common.{refl, sym, ap, ap₂, subst, ◌∙◌, inl, inr, arith}
use Rattle.std.proofs.lemmas.Bool.{cases_lt}
use Rattle.std.proofs.lemmas.List.{get_or_default}
use Rattle.indexmap.proofs.IndexTableLemmas.Probe.{pigeonhole}
use Rattle.region_cells.specs.tm_terms.declared.refusals.Limit.TheVariants as Limits
use Rattle.region_cells.specs.tm_laid.declared.scales.Scale.{Scale}
use Rattle.region_cells.specs.tm_laid.Scales.{number_on}
use Rattle.region_cells.specs.tm_laid.Layouts.{LaidTree}
use Rattle.region_cells.specs.flow_graph.declared.graphs.Graph.{Graph}
use Rattle.region_cells.specs.flow_graph.Graphs.{Edges}
use Rattle.program_graphs.specs.mutex_configs.declared.nodes.ConfiguredNode.{ConfiguredNode}
use Rattle.program_graphs.specs.mutex_configs.declared.nodes.ConfiguredGraph.{ConfiguredGraph}
use Rattle.program_graphs.specs.mutex_configs.Nodes.{IsBefore, AreNodes, HasMoreNodes, all_copies, IsConfigured}
use Rattle.program_graphs.specs.mutex_configs.Nodes.{entry_node}
use Rattle.program_graphs.specs.mutex_configs.Programs.{seen_cells, work_from, AreConfigured}
use Rattle.configured_laws.specs.Laws.{edges_of, AreAlike}
use Rattle.configured_laws.proofs.Lists.{lists_are_one}

-- ## Nodes

before_one_way : (q r : ConfiguredNode) → IsBefore q r → IsBefore r q → ⊥
before_one_way q r (inl a) (inl b) = omega (arith, a, b)
before_one_way q r (inl a) (inr (e, b)) = omega (arith, a, e)
before_one_way q r (inr (e, a)) (inl b) = omega (arith, b, e)
before_one_way q r (inr (e, inl a)) (inr (f, inl b)) = omega (arith, a, b)
before_one_way q r (inr (e, inl a)) (inr (f, inr (g, b))) = omega (arith, a, g)
before_one_way q r (inr (e, inr (g, a))) (inr (f, inl b)) = omega (arith, g, b)
before_one_way q r (inr (e, inr (g, a))) (inr (f, inr (h, b))) = omega (arith, a, b)

nodes_are_one : (g : Edges) (a b : List ConfiguredNode) → AreNodes g a → AreNodes g b → a ≡ b
nodes_are_one g a b h k =
    lists_are_one IsBefore before_one_way a b h.in_order k.in_order (λ q c. (k.reached q).1 ((h.reached q).0 c))
    (λ q c. (h.reached q).1 ((k.reached q).0 c))

-- ## Different elements of a list

module _ {X : Type 0} (xs ys : List X) (d : X) (different : AllPairs (λ x y. x ≢ y) xs)
    (inside : (k : ℕ) → k < length xs → Contains ys (get_or xs k d)) where
  abbrev place_by : (k : ℕ) → (k < length xs) ⊎ (length xs ≤ k) → ℕ
  place_by k (inl lt) = (inside k lt).0
  place_by k (inr past) = 0

  abbrev place : ℕ → ℕ
  place k = place_by k (cases_lt k (length xs))

  placed : (k : ℕ) (s : (k < length xs) ⊎ (length xs ≤ k)) → k < length xs
      → (place_by k s < length ys) × (get_or ys (place_by k s) d ≡ get_or xs k d)
  placed k (inl lt) within =
      let c = inside k lt in
      (c.1, get_or_default ys c.0 d (get_or xs k d) c.1 ∙ c.2)
  placed k (inr past) within = absurd (omega (arith, past, within))

  is_placed : (k : ℕ) → k < length xs → (place k < length ys) × (get_or ys (place k) d ≡ get_or xs k d)
  is_placed k lt = placed k (cases_lt k (length xs)) lt

  same_place : (i j : ℕ) → i < length xs → j < length xs → place i ≡ place j → get_or xs i d ≡ get_or xs j d
  same_place i j lt within e =
      sym (is_placed i lt).1 ∙ ap (λ k. get_or ys k d) e ∙ (is_placed j within).1

  one_to_one : (i j : ℕ) → i < length xs → j < length xs → place i ≡ place j → i ≡ j
  one_to_one i j lt within e = elim (cases_lt i j) [
    | inl below ↦ absurd (different i j d below within (same_place i j lt within e))
    | inr past ↦ elim (cases_lt j i) [
      | inl above ↦ absurd (different j i d above lt (sym (same_place i j lt within e)))
      | inr least ↦ omega (arith, past, least)
    ]
  ]

  -- they are no more than all of its elements
  pub no_more : length xs ≤ length ys
  no_more = pigeonhole (length xs) (length ys) place (λ k lt. (is_placed k lt).0) one_to_one

-- a graph with a configured graph of so many nodes has no more of them
pub not_more : (g : Edges) (c : ConfiguredGraph) (most : ℕ) → IsConfigured g c → length c.nodes.keys ≤ most
    → HasMoreNodes g most → ⊥
not_more g c most is few has =
    let inside : (k : ℕ) → k < length has.nodes → Contains c.nodes.keys (get_or has.nodes k entry_node) =
    λ k lt. (is.nodes.reached (get_or has.nodes k entry_node)).1 (has.reached k entry_node lt) in
    let least = no_more has.nodes c.nodes.keys entry_node has.different inside in
    let more = has.more in
    omega (arith, least, more, few)

-- ## Configured graphs

-- a graph of a list that is not empty
pub some_graph : (gs : List Graph) → 0 < length gs → Graph
some_graph [] lt = absurd (omega (arith, lt))
some_graph (g ∷ gs) lt = g

configured_is_one : (g : Edges) (c d : ConfiguredGraph) → IsConfigured g c → IsConfigured g d
    → (c.nodes.keys ≡ d.nodes.keys) × (c.copies.items ≡ d.copies.items)
configured_is_one g c d h k =
    let same : c.nodes.keys ≡ d.nodes.keys = nodes_are_one g c.nodes.keys d.nodes.keys h.nodes k.nodes in
    (same, h.copies ∙ ap (λ ns. all_copies ns 0 g) same ∙ sym k.copies)

head_same : (x y : Edges) (xs ys : List Edges) → (x ∷ xs) ≡ (y ∷ ys) → x ≡ y
head_same x y xs ys e = cc

tail_same : (x y : Edges) (xs ys : List Edges) → (x ∷ xs) ≡ (y ∷ ys) → xs ≡ ys
tail_same x y xs ys e = cc

nil_is_cons : (y : Edges) (ys : List Edges) → [] ≡ (y ∷ ys) → ⊥
nil_is_cons y ys e = absurd (cc)

-- graphs with the same edges have the same configured graphs, on whatever scales
pub configured_alike : (scale other : Scale) (gs hs : List Graph) (cs ds : List ConfiguredGraph)
    → edges_of gs ≡ edges_of hs → AreConfigured scale gs cs → AreConfigured other hs ds → AreAlike cs ds
configured_alike scale other [] [] [] [] e a b = tt
configured_alike scale other [] [] [] (d ∷ ds) e a b = absurd b
configured_alike scale other [] [] (c ∷ cs) ds e a b = absurd a
configured_alike scale other [] (h ∷ hs) cs ds e a b = absurd (nil_is_cons h.edges.items (edges_of hs) e)
configured_alike scale other (g ∷ gs) [] cs ds e a b = absurd (nil_is_cons g.edges.items (edges_of gs) (sym e))
configured_alike scale other (g ∷ gs) (h ∷ hs) [] ds e a b = absurd a
configured_alike scale other (g ∷ gs) (h ∷ hs) (c ∷ cs) [] e a b = absurd b
configured_alike scale other (g ∷ gs) (h ∷ hs) (c ∷ cs) (d ∷ ds) e a b =
    let same : g.edges.items ≡ h.edges.items = head_same g.edges.items h.edges.items (edges_of gs) (edges_of hs) e in
    let one = configured_is_one h.edges.items c d (subst (λ (es : Edges). IsConfigured es c) same a.0) b.0 in (
      one.0,
      one.1,
      configured_alike scale other gs hs cs ds (tail_same g.edges.items h.edges.items (edges_of gs) (edges_of hs) e)
          a.2 b.2,
    )

-- and are the same work
pub work_alike : (laid : LaidTree) (body : ℕ) (cs ds : List ConfiguredGraph) → AreAlike cs ds
    → work_from laid body cs ≡ work_from laid body ds
work_alike laid body [] [] a = refl
work_alike laid body [] (d ∷ ds) a = absurd a
work_alike laid body (c ∷ cs) [] a = absurd a
work_alike laid body (c ∷ cs) (d ∷ ds) a =
    ap₂ (λ (ns : List ConfiguredNode) (w : ℕ). length ns * seen_cells laid body + w) a.0
    (work_alike laid (suc body) cs ds a.2)

pub as_many : (scale : Scale) (gs : List Graph) (cs : List ConfiguredGraph) → AreConfigured scale gs cs
    → length cs ≡ length gs
as_many scale [] [] a = refl
as_many scale [] (c ∷ cs) a = absurd a
as_many scale (g ∷ gs) [] a = absurd a
as_many scale (g ∷ gs) (c ∷ cs) a = ap suc (as_many scale gs cs a.2)

-- no configured graph has more nodes than the limit allows
pub none_has_more : (scale : Scale) (gs : List Graph) (cs : List ConfiguredGraph) → AreConfigured scale gs cs → (k : ℕ)
    (d : Graph) → k < length gs
    → (let g = get_or gs k d in HasMoreNodes g.edges.items (number_on scale Limits.Nodes)) → ⊥
none_has_more scale [] cs a k d lt has = omega (arith, lt)
none_has_more scale (g ∷ gs) [] a k d lt has = a
none_has_more scale (g ∷ gs) (c ∷ cs) a zero d lt has =
    not_more g.edges.items c (number_on scale Limits.Nodes) a.0 a.1 has
none_has_more scale (g ∷ gs) (c ∷ cs) a (suc k) d lt has = none_has_more scale gs cs a.2 k d (omega (arith, lt)) has

-- the same at a place
pub alike_at : (cs ds : List ConfiguredGraph) → AreAlike cs ds → (k : ℕ) (d : ConfiguredGraph) → k < length cs
    → (let c = get_or cs k d in let e = get_or ds k d in
    (c.nodes.keys ≡ e.nodes.keys) × (c.copies.items ≡ e.copies.items))
alike_at [] ds a k d lt = absurd (omega (arith, lt))
alike_at (c ∷ cs) [] a k d lt = absurd a
alike_at (c ∷ cs) (e ∷ ds) a zero d lt = (a.0, a.1)
alike_at (c ∷ cs) (e ∷ ds) a (suc k) d lt = alike_at cs ds a.2 k d (omega (arith, lt))
