-- A layout has one answer: its graphs with their configured graphs, or the first limit that these exceed.
use Rattle.std.specs.Prelude.{◌≡◌, ℕ, ◌<◌, List, length, get_or, Ok, Err}
use Rattle.std.proofs.Common.{sym, subst, ◌∙◌, inl, inr, arith}
use Rattle.std.proofs.lemmas.List.{same_lists, get_or-map, length-map}
use Rattle.region_cells.specs.tm_terms.declared.refusals.Fail.TheVariants as Fails
use Rattle.region_cells.specs.tm_terms.declared.refusals.Limit.TheVariants as Limits
use Rattle.region_cells.specs.tm_terms.declared.refusals.Refusal.{Refusal}
use Rattle.region_cells.specs.tm_laid.declared.scales.Scale.{Scale}
use Rattle.region_cells.specs.tm_laid.Scales.{number_on}
use Rattle.region_cells.specs.tm_laid.Layouts.{LaidTree}
use Rattle.region_cells.specs.flow_graph.declared.graphs.Graph.{Graph}
use Rattle.region_cells.specs.flow_graph.Graphs.{Edges}
use Rattle.program_graphs.specs.graph_builder.Lowered.{AreGraphs, HasTooManyNodes}
use Rattle.program_graphs.specs.mutex_configs.declared.nodes.ConfiguredGraph.{ConfiguredGraph}
use Rattle.program_graphs.specs.mutex_configs.Nodes.{HasMoreNodes}
use Rattle.program_graphs.specs.mutex_configs.Programs.{AreConfigured, IsAnswer, work_from}
use Rattle.program_graphs.specs.mutex_configs.Programs.{HasTooManyNodes as HaveTooManyNodes}
use Rattle.configured_laws.specs.Laws.{edges_of, AreAlike, NeverBoth, OneLimit, ProgramsAreAlike}
use Rattle.configured_laws.proofs.ConfiguredAlike.{some_graph, configured_alike, work_alike}
use Rattle.configured_laws.proofs.ConfiguredAlike.{none_has_more}

-- ## Graphs

-- the graph of no body has more nodes than the limit allows
none_too_big : (scale : Scale) (laid : LaidTree) (gs : List Graph) → AreGraphs scale laid gs
    → HasTooManyNodes scale laid → ⊥
none_too_big scale laid gs are has =
    let count = are.count in
    let inside = has.within in
    let few = are.few has.body (omega (arith, inside, count)) in
    let more = has.more in
    omega (arith, few, more)

module _ (scale other : Scale) (laid : LaidTree) (gs hs : List Graph) (are : AreGraphs scale laid gs)
    (others : AreGraphs other laid hs) where
  pub counts : length gs ≡ length hs
  counts = are.count ∙ sym others.count

  within : (t : ℕ) → t < length gs → t < length hs
  within t lt = let same = counts in omega (arith, lt, same)

  pub edges_at : (t : ℕ) (d e : Graph) → t < length gs
      → (let g = get_or gs t d in let h = get_or hs t e in g.edges.items ≡ h.edges.items)
  edges_at t d e lt =
      let one = are.each t d lt in
      let other = others.each t e (within t lt) in
      one.edges ∙ sym other.edges

  pub nodes_at : (t : ℕ) (d e : Graph) → t < length gs
      → (let g = get_or gs t d in let h = get_or hs t e in g.nodes ≡ h.nodes)
  nodes_at t d e lt =
      let one = are.each t d lt in
      let other = others.each t e (within t lt) in
      one.nodes ∙ sym other.nodes

  pub same_edges : edges_of gs ≡ edges_of hs
  same_edges = same_lists (edges_of gs) (edges_of hs) longs at
    where
      edges : Graph → Edges
      edges g = g.edges.items

      longs : length (edges_of gs) ≡ length (edges_of hs)
      longs = length-map gs edges ∙ counts ∙ sym (length-map hs edges)

      at : (t : ℕ) (d : Edges) → t < length (edges_of gs) → get_or (edges_of gs) t d ≡ get_or (edges_of hs) t d
      at t d lt =
          let long = length-map gs edges in
          let inside : t < length gs = omega (arith, lt, long) in
          let g : Graph = some_graph gs (omega (arith, inside)) in
          get_or-map edges gs t g d inside ∙ edges_at t g g inside ∙ sym (get_or-map edges hs t g d (within t inside))

  pub alike : (cs ds : List ConfiguredGraph) → AreConfigured scale gs cs → AreConfigured other hs ds → AreAlike cs ds
  alike cs ds a b = configured_alike scale other gs hs cs ds same_edges a b

-- ## Configured graphs

module _ (scale : Scale) (laid : LaidTree) (gs hs : List Graph) (are : AreGraphs scale laid gs)
    (others : AreGraphs scale laid hs) where
  same_work : (cs ds : List ConfiguredGraph) → AreConfigured scale gs cs → AreConfigured scale hs ds
      → work_from laid 0 cs ≡ work_from laid 0 ds
  same_work cs ds a b = work_alike laid 0 cs ds (alike scale scale laid gs hs are others cs ds a b)

  -- graphs of which one has too many nodes are not configured
  not_many : (ds : List ConfiguredGraph) → AreConfigured scale hs ds → HaveTooManyNodes scale gs → ⊥
  not_many ds a (k, g, lt, here, has) =
      let own : (let e = get_or gs k g in HasMoreNodes e.edges.items (number_on scale Limits.Nodes)) =
      subst (λ (e : Graph). HasMoreNodes e.edges.items (number_on scale Limits.Nodes)) (sym here) has in
      none_has_more scale hs ds a k g (within scale scale laid gs hs are others k lt)
      (subst (λ (es : Edges). HasMoreNodes es (number_on scale Limits.Nodes))
      (edges_at scale scale laid gs hs are others k g g lt) own)

  pub not_refused : (ds : List ConfiguredGraph) (r : Refusal) → IsAnswer scale laid hs (Ok ds)
      → IsAnswer scale laid gs (Err (Fails.Refused r)) → ⊥
  not_refused ds r a (inl (e, many)) = not_many ds a.0 many
  not_refused ds r a (inr (e, much)) =
      let same = same_work much.configured ds much.are a.0 in
      let more = much.more in
      let few = a.1 in
      omega (arith, same, more, few)

module _ (scale : Scale) (laid : LaidTree) (gs hs : List Graph) (are : AreGraphs scale laid gs)
    (others : AreGraphs scale laid hs) where
  pub one_limit : (r s : Refusal) → IsAnswer scale laid gs (Err (Fails.Refused r))
      → IsAnswer scale laid hs (Err (Fails.Refused s)) → r ≡ s
  one_limit r s (inl (e, many)) (inl (f, other)) = e ∙ sym f
  one_limit r s (inl (e, many)) (inr (f, much)) =
      absurd (not_many scale laid gs hs are others much.configured much.are many)
  one_limit r s (inr (e, much)) (inl (f, many)) =
      absurd (not_many scale laid hs gs others are much.configured much.are many)
  one_limit r s (inr (e, much)) (inr (f, other)) = e ∙ sym f

-- ## Layouts

-- a layout is not prepared and refused
pub not_both : NeverBoth
not_both scale laid p r (are, answer) (inl (e, big)) = none_too_big scale laid p.graphs are big
not_both scale laid p r (are, answer) (inr more) =
    not_refused scale laid more.graphs p.graphs more.are are p.configured r answer more.beyond

-- it has one refusal
pub one_refused : OneLimit
one_refused scale laid r s (inl (e, big)) (inl (f, other)) = e ∙ sym f
one_refused scale laid r s (inl (e, big)) (inr more) = absurd (none_too_big scale laid more.graphs more.are big)
one_refused scale laid r s (inr more) (inl (f, big)) = absurd (none_too_big scale laid more.graphs more.are big)
one_refused scale laid r s (inr more) (inr other) =
    one_limit scale laid more.graphs other.graphs more.are other.are r s more.beyond other.beyond

-- and its program is one, on whatever scales
pub programs_alike : ProgramsAreAlike
programs_alike scale other laid p q a b = (
  same_edges scale other laid p.graphs q.graphs a.0 b.0,
  alike scale other laid p.graphs q.graphs a.0 b.0 p.configured q.configured a.1.0 b.1.0,
)
