-- A body of a configured graph keeps what the equations ask of it.
use Rattle.std.specs.Prelude.{◌≡◌, ◌≢◌, ℕ, ◌<◌, List, All}
use Rattle.std.proofs.Common.{sym, ap, subst, ◌∙◌}
use Rattle.std.proofs.lemmas.List.Elements.{All-contains_itself, All-from_get_or}
use Rattle.state_fits.specs.temporary_types.Sorts.{Sort, FitsSorts}
use Rattle.mutex_configs.specs.flow_graph.declared.graphs.Edge.{Edge}
use Rattle.mutex_configs.specs.flow_graph.declared.graphs.Graph.{Graph}
use Rattle.mutex_configs.specs.flow_graph.Graphs.{Edges}
use Rattle.mutex_configs.specs.graph_facts.Live.{AreLive}
use Rattle.mutex_configs.specs.graph_facts.Heads.{IsHeadUpTo}
use Rattle.mutex_configs.specs.declared.nodes.ConfiguredNode.{ConfiguredNode}
use Rattle.mutex_configs.specs.declared.nodes.ConfiguredGraph.{ConfiguredGraph}
use Rattle.mutex_configs.specs.Graphs.{IsGraph}
use Rattle.mutex_configs.specs.Nodes.{AreNodes, IsConfigured, entry_node, all_copies}
use Rattle.task_equations.specs.Bodies.{Body, no_edge, no_copy, node_at}
use Rattle.task_equations.specs.Equations.{cells_rounded}
use Rattle.task_equations.specs.Premises.{IsBody}
use Rattle.task_equations.specs.Configured.{NeverReturns, IsBodyOf, IsTypedBody}
use Rattle.task_equations.proofs.HeldSets.{held_reached}
use Rattle.task_equations.proofs.CopiesOfEdges.{copies_are}
use Rattle.task_equations.proofs.PlacesOfBodies.{flows, entry_first, entry_plain}

module _ (g : Graph) (c : ConfiguredGraph) (b : Body) (sorts : List Sort) (graph : IsGraph g) (never : NeverReturns g)
    (configured : IsConfigured g.edges.items c) (of : IsBodyOf g c b) (typed : IsTypedBody b sorts) where
  -- what is said of all edges of the graph is said of those of the body
  all_edges : (P : Edge → Type 0) → All P g.edges.items → All P b.edges
  all_edges P all = subst (λ es. All P es) (sym of.edges) all

  nodes_are : AreNodes b.edges b.nodes
  nodes_are = subst (λ es. AreNodes es b.nodes) (sym of.edges)
      (subst (λ ns. AreNodes g.edges.items ns) (sym of.nodes) configured.nodes)

  copies_of : b.copies ≡ all_copies b.nodes 0 b.edges
  copies_of = of.copies ∙ configured.copies ∙ ap (λ ns. all_copies ns 0 g.edges.items) (sym of.nodes)
      ∙ ap (λ es. all_copies b.nodes 0 es) (sym of.edges)

  live_are : AreLive b.edges g.nodes b.live
  live_are = subst (λ es. AreLive es g.nodes b.live) (sym of.edges) of.live

  heads_are : All (IsHeadUpTo b.edges) b.heads
  heads_are = subst (λ es. All (IsHeadUpTo es) b.heads) (sym of.edges) (let heads = of.heads in heads.each)

  pub configured_body : IsBody b sorts
  configured_body = record {
    some = (entry_first b.edges b.nodes nodes_are).0;
    copies = λ k lt. copies_are b copies_of k no_copy lt;
    held = λ n lt. held_reached b.laid sorts b.edges
        (All-from_get_or (λ (e : Edge). FitsSorts b.laid sorts e.op) b.edges no_edge typed.operations) (node_at b n)
        ((nodes_are.reached (node_at b n)).0 (All-contains_itself b.nodes n entry_node lt));
    entry =
        ap (λ (q : ConfiguredNode). cells_rounded b.heads b.written q.place) (entry_first b.edges b.nodes nodes_are).1
        ∙ entry_plain b.edges b.heads b.written (all_edges (λ (e : Edge). e.to ≢ 0) never) heads_are;
    marks = typed.marks;
    spots = typed.spots;
    seen = typed.seen;
    operations = typed.operations;
    objects = typed.objects;
    settled = typed.settled;
    flow = λ k lt t is other. flows b.edges g.nodes b.live live_are
        (all_edges (λ (e : Edge). e.from < g.nodes) graph.from) (all_edges (λ (e : Edge). e.to < g.nodes) graph.to)
        k lt t is other;
  }
