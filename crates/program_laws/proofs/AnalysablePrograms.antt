-- A program that is prepared can be analysed.
use Rattle.std.specs.Prelude.{ℕ, ◌<◌, ◌≤◌, ◌^◌, List, length, get_or, All, Ok}
use Rattle.std.proofs.Common.{arith}
use Rattle.layout_laws.specs.tm_typed.TypedFiles.{typed_file_tree}
use Rattle.layout_laws.specs.tm_laid.declared.scales.Scale.{Scale}
use Rattle.layout_laws.specs.tm_laid.Layouts.{LaidTree, laid_tree}
use Rattle.operation_laws.specs.call_graph.Orders.{IsWholeOrder}
use Rattle.graph_builder.specs.flow_graph.declared.graphs.Graph.{Graph}
use Rattle.operation_laws.specs.graph_facts.Edges.{AreInRange}
use Rattle.graph_builder.specs.Lowered.{AreGraphs}
use Rattle.operation_laws.specs.mutex_configs.declared.nodes.ConfiguredNode.{ConfiguredNode}
use Rattle.operation_laws.specs.mutex_configs.declared.nodes.ConfiguredGraph.{ConfiguredGraph}
use Rattle.operation_laws.specs.mutex_configs.declared.programs.Program.{Program}
use Rattle.operation_laws.specs.mutex_configs.Graphs.{IsGraph}
use Rattle.operation_laws.specs.mutex_configs.Nodes.{IsConfigured}
use Rattle.operation_laws.specs.mutex_configs.Programs.{IsAnswer}
use Rattle.operation_laws.proofs.low.mutex_configs.Whole.{places_are, same_length}
use Rattle.thresholds.specs.Thresholds.{Numbers, AreThresholds}
use Rattle.operation_laws.specs.lowering_laws.LaidFiles.{IsLaidFile}
use Rattle.operation_laws.proofs.low.lowering_laws.Configured.{configurable}
use Rattle.program_systems.specs.Analysable.{IsAnalysable}
use Rattle.program_laws.proofs.LayableFiles.{files_layable}
use Rattle.program_laws.proofs.LaidCells.{limited}
use Rattle.program_laws.proofs.LaidBodies.{configured_at}
use Rattle.program_laws.proofs.LaidPrograms.{HasBodies, bodies_counted, held_read, program_kept}

module _ (program : Program) (is : IsLaidFile (laid_tree program.laid))
    (whole : let file = typed_file_tree program.laid.file in IsWholeOrder file.calls program.laid.file.order.items)
    (scale : Scale) (are : AreGraphs scale (laid_tree program.laid) program.graphs.graphs.items)
    (answer : IsAnswer scale (laid_tree program.laid) program.graphs.graphs.items (Ok program.configured.items))
    (numbers : Numbers) (thresholds : AreThresholds numbers program.marks) where
  abbrev laid : LaidTree
  laid = laid_tree program.laid

  abbrev graphs : List Graph
  graphs = program.graphs.graphs.items

  abbrev configured : List ConfiguredGraph
  configured = program.configured.items

  -- ## Graphs

  graph_is : (t : ℕ) (g : Graph) → t < length graphs → IsGraph (get_or graphs t g)
  graph_is t g lt =
      let own = are.each t g lt in
      configurable laid is t (get_or graphs t g) own.edges own.nodes

  in_range : All (λ (g : Graph). AreInRange g.edges.items g.nodes) graphs
  in_range t g lt = let own = graph_is t g lt in λ k e le. (own.from k e le, own.to k e le)

  -- as many as bodies: one for each task, and at most one more
  enough : length laid.file.tasks ≤ length graphs
  enough =
      let count = are.count in
      let bodies : HasBodies laid = bodies_counted laid is in
      let least = bodies.0 in
      omega (arith, count, least)

  few_graphs : length graphs < 2 ^ 32
  few_graphs =
      let count = are.count in
      let bodies : HasBodies laid = bodies_counted laid is in
      let most = bodies.1 in
      let limits = limited laid is in
      let tasks = limits.tasks in
      omega (arith, count, most, tasks)

  -- ## Configured graphs

  -- the nodes of a configured graph are at places of its graph
  at_places : (t : ℕ) (g : Graph) (c : ConfiguredGraph) → t < length graphs
      → All (λ (q : ConfiguredNode). q.place < (get_or graphs t g).nodes) (get_or configured t c).nodes.keys
  at_places t g c lt =
      let graph : Graph = get_or graphs t g in
      let nodes : ConfiguredGraph = get_or configured t c in
      let own = graph_is t g lt in
      let is_configured : IsConfigured graph.edges.items nodes =
      configured_at scale graphs configured answer.0 t lt g c in
      places_are graph.edges.items graph.nodes nodes.nodes.keys is_configured.nodes own.entry own.to

  -- ## Programs

  pub analysable : IsAnalysable program
  analysable =
      let limits = limited laid is in
      record {
        layable = files_layable program.laid is whole;
        begins = record { initial = held_read laid is; few = limits.abstract_cells };
        tasks = enough;
        ranges = in_range;
        small = few_graphs;
        count = same_length scale graphs configured answer.0;
        places = at_places;
        lawful = λ p of. program_kept laid is graphs configured scale are answer numbers program.marks thresholds p of;
      }
