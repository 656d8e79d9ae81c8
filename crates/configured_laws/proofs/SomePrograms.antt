-- Each layout of a typed file has a program, or exceeds a limit.
use Rattle.std.specs.Prelude.{◌≡◌, ◌⊎◌, ℕ, zero, suc, ◌+◌, ◌<◌, ◌≤◌, ◌^◌, List, [], ◌∷◌, ◌++◌, length, map, All}
use Rattle.std.proofs.Common.{refl, sym, ap, subst, ◌∙◌, inl, inr, arith, BuildHasherDefault, FoldHasher}
use Rattle.std.specs.HashSet.{HashSet}
use Rattle.indexmap.specs.Layout.{hash_map, key_set}
use Rattle.std.proofs.lemmas.Nat.{mul-le}
use Rattle.std.proofs.lemmas.Bool.{cases_lt}
use Rattle.std.proofs.lemmas.List.Elements.{All-head, All-tail}
use Rattle.region_cells.specs.tm_terms.declared.refusals.Limit.TheVariants as Limits
use Rattle.region_cells.specs.tm_laid.declared.scales.Scale.{Scale}
use Rattle.region_cells.specs.tm_laid.Scales.{number_on}
use Rattle.region_cells.specs.tm_laid.Layouts.{LaidTree, beyond}
use Rattle.region_cells.specs.flow_graph.declared.graphs.Graph.{Graph}
use Rattle.region_cells.specs.flow_graph.Graphs.{Edges}
use Rattle.program_graphs.specs.mutex_configs.declared.nodes.ConfiguredNode.{ConfiguredNode}
use Rattle.program_graphs.specs.mutex_configs.declared.nodes.ConfiguredGraph.{ConfiguredGraph}
use Rattle.program_graphs.specs.mutex_configs.Nodes.{AreNodes, IsConfigured, all_copies}
use Rattle.program_graphs.specs.mutex_configs.Programs.{AreConfigured, work_from}
use Rattle.program_graphs.specs.mutex_configs.Programs.{HasTooManyNodes as HaveTooManyNodes}
use Rattle.program_graphs.specs.lowering.Built.{built, graph_of}
use Rattle.program_graphs.specs.graph_builder.Lowered.{IsGraphOf, AreGraphs, HasTooManyNodes}
use Rattle.program_graphs.specs.graph_builder.reading.Finding.{AreFirst}
use Rattle.program_graphs.proofs.low.mutex_configs.Whole.{most_nodes}
use Rattle.program_graphs.proofs.low.graph_builder.GraphPieces.{one_more, all_graphs}
use Rattle.program_graphs.specs.lowering_laws.LaidFiles.{IsLaidFile}
use Rattle.program_graphs.proofs.low.lowering_laws.GraphLaws.{are_plain}
use Rattle.program_graphs.proofs.low.lowering_laws.Ranges.{joins_nodes}
use Rattle.program_graphs.specs.Prepared.{Graphed}
use Rattle.configured_laws.specs.Laws.{IsProgram, IsBeyond, SomeProgram}
use Rattle.configured_laws.proofs.Vectors.{vector, has_items}
use Rattle.configured_laws.proofs.FewEdges.{few_edges, few_copies}
use Rattle.configured_laws.proofs.SomeNodes.{some_nodes}

-- ## Configured graphs

set_of : List ConfiguredNode → HashSet ConfiguredNode (BuildHasherDefault FoldHasher)
set_of nodes = key_set (hash_map (map (λ q. (q, tt {0})) nodes) (record { initial = record { state = 0 } }) 0)

has_keys : (nodes : List ConfiguredNode) → (let s = set_of nodes in s.keys) ≡ nodes
unfolding set_of
has_keys [] = refl
has_keys (q ∷ nodes) = ap (λ qs. q ∷ qs) (has_keys nodes)

-- a graph of at most twice as many edges as a graph may have nodes on the large scale
abbrev IsFew : Edges → Type 0
IsFew g = length g ≤ 400000

module _ (scale : Scale) (g : Edges) (few : IsFew g) (nodes : List ConfiguredNode)
    (within : length nodes ≤ number_on scale Limits.Nodes) where
  small : length (all_copies nodes 0 g) < 2 ^ 63
  small =
      let copies = few_copies nodes 0 g in
      let most = most_nodes scale in
      let product = mul-le (length g) (length nodes + length nodes) 400000 400000 few (omega (arith, within, most)) in
      omega (arith, copies, product)

  configured_of : AreNodes g nodes
      → (c : ConfiguredGraph) × IsConfigured g c × (length c.nodes.keys ≤ number_on scale Limits.Nodes)
  configured_of are =
      let keys = has_keys nodes in (
        record { nodes = set_of nodes; copies = vector (all_copies nodes 0 g) small },
        record {
          nodes = subst (λ qs. AreNodes g qs) (sym keys) are;
          copies = has_items (all_copies nodes 0 g) small ∙ ap (λ qs. all_copies qs 0 g) (sym keys);
        },
        subst (λ qs. length qs ≤ number_on scale Limits.Nodes) (sym keys) within,
      )

abbrev HasFew : Graph → Type 0
HasFew g = IsFew g.edges.items

some_configured : (scale : Scale) (gs : List Graph) → All HasFew gs
    → ((cs : List ConfiguredGraph) × AreConfigured scale gs cs) ⊎ HaveTooManyNodes scale gs
some_configured scale [] few = inl ([], tt)
some_configured scale (g ∷ gs) few = elim (some_nodes g.edges.items (number_on scale Limits.Nodes)) [
  | inr more ↦ inr (0, g, (let z : 0 < suc (length gs) = omega arith in z), refl, more)
  | inl (nodes, are, within) ↦
      (let c = configured_of scale g.edges.items (All-head HasFew g gs few) nodes within are in
      elim (some_configured scale gs (All-tail HasFew g gs few)) [
        | inr (k, d, lt, here, has) ↦
            inr (suc k, d, (let z : suc k < suc (length gs) = omega (arith, lt) in z), here, has)
        | inl (cs, rest) ↦ inl (c.0 ∷ cs, (c.1, c.2, rest))
      ])
]

-- ## Layouts

module _ (scale : Scale) (laid : LaidTree) (is : IsLaidFile laid) where
  few_in : (body : ℕ) → body < length laid.bodies → (built laid body).nodes ≤ number_on scale Limits.Nodes
      → IsFew (graph_of laid body)
  few_in body lt few =
      let all = few_edges (graph_of laid body) (built laid body).nodes (are_plain laid is body lt)
      (λ k d w. (joins_nodes laid body k d w).0) in
      let most = most_nodes scale in
      omega (arith, all, few, most)

  graph_for : (body : ℕ) → body < length laid.bodies → (built laid body).nodes ≤ number_on scale Limits.Nodes
      → (g : Graph) × IsGraphOf laid body g
  graph_for body lt few =
      let all : length (graph_of laid body) ≤ 400000 = few_in body lt few in
      let short : length (graph_of laid body) < 2 ^ 63 = omega (arith, all) in (
        record { body = body; nodes = (built laid body).nodes; edges = vector (graph_of laid body) short },
        record { number = refl; nodes = refl; edges = has_items (graph_of laid body) short },
      )

  first_graphs : (count : ℕ) → count ≤ length laid.bodies
      → ((gs : List Graph) × AreFirst scale laid count gs) ⊎ HasTooManyNodes scale laid
  first_graphs zero within = inl (
    [],
    record {
      are = refl;
      each = λ body other lt. absurd (omega (arith, lt));
      few = λ body lt. absurd (omega (arith, lt));
    },
  )
  first_graphs (suc k) within = elim (first_graphs k (omega (arith, within))) [
    | inr many ↦ inr many
    | inl (gs, first) ↦ elim (cases_lt (number_on scale Limits.Nodes) (built laid k).nodes) [
      | inl more ↦ inr (record { body = k; within = omega (arith, within); more = more })
      | inr few ↦
          (let g = graph_for k (omega (arith, within)) few in
          let next : AreFirst scale laid (k + 1) (gs ++ g.0 ∷ []) =
          one_more scale laid k gs (gs ++ g.0 ∷ []) g.0 first (g.1, few) refl in
          inl (
            gs ++ g.0 ∷ [],
            subst (λ n. AreFirst scale laid n (gs ++ g.0 ∷ [])) (let z : k + 1 ≡ suc k = omega arith in z) next,
          ))
    ]
  ]

  have_few : (gs : List Graph) → AreGraphs scale laid gs → All HasFew gs
  have_few gs are k d lt =
      let count = are.count in
      let own = are.each k d lt in
      subst IsFew (sym own.edges) (few_in k (omega (arith, lt, count)) (are.few k lt))

  abbrev Answered : Type 0
  Answered = ((p : Graphed) × IsProgram scale laid p)
      ⊎ (IsBeyond scale laid (beyond Limits.Nodes) ⊎ IsBeyond scale laid (beyond Limits.Work))

  of_graphs : (gs : List Graph) → AreGraphs scale laid gs → Answered
  of_graphs gs are = elim (some_configured scale gs (have_few gs are)) [
    | inr many ↦ inr (inl (inr (record { graphs = gs; are = are; beyond = inl (refl, many) })))
    | inl (cs, configured) ↦ elim (cases_lt (number_on scale Limits.Work) (work_from laid 0 cs)) [
      | inl more ↦
          inr (inr (inr (record {
            graphs = gs;
            are = are;
            beyond = inr (refl, record { configured = cs; are = configured; more = more });
          })))
      | inr few ↦ inl (record { graphs = gs; configured = cs }, (are, (configured, few)))
    ]
  ]

  answered : Answered
  answered = elim (first_graphs (length laid.bodies) (omega arith)) [
    | inr many ↦ inr (inl (inl (refl, many)))
    | inl (gs, first) ↦ of_graphs gs (all_graphs scale laid (length laid.bodies) gs first refl)
  ]

pub some_program : SomeProgram
some_program scale laid is = answered scale laid is
