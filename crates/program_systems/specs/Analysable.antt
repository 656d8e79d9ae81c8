-- Programs that can be analysed.
use Rattle.std.specs.Prelude.{◌≡◌, ℕ, ◌<◌, ◌≤◌, ◌^◌, length, get_or, All}
use Rattle.tm_typed.specs.TypedFiles.{typed_file_tree}
use Rattle.mutex_configs.specs.tm_laid.Layouts.{laid_tree}
use Rattle.mutex_configs.specs.tm_laid.Layable.{IsLayable}
use Rattle.mutex_configs.specs.flow_graph.declared.graphs.Graph.{Graph}
use Rattle.mutex_configs.specs.graph_facts.Edges.{AreInRange}
use Rattle.mutex_configs.specs.declared.nodes.ConfiguredNode.{ConfiguredNode}
use Rattle.mutex_configs.specs.declared.nodes.ConfiguredGraph.{ConfiguredGraph}
use Rattle.mutex_configs.specs.declared.programs.Program.{Program}
use Rattle.entry_states.specs.program_equations.Readings.{read_layout}
use Rattle.entry_states.specs.Beginnings.{BeginsInTypes}
use Rattle.entry_states.specs.program_equations.Programs.{ProgramBodies, IsProgramOf, IsProgram}

-- The file can be laid out, and cells hold values of their types at first; each task has a graph; edges join nodes of
-- their graphs; each graph has its configured graph, whose nodes are at its places; and whatever the program is as
-- bodies, its equations have solutions.
pub record IsAnalysable (program : Program) : Type 0 where
  pub layable : IsLayable (typed_file_tree program.laid.file) program.laid.file.order.items
  pub begins : BeginsInTypes (read_layout (laid_tree program.laid))
  pub tasks : length program.laid.file.tasks.items ≤ length program.graphs.graphs.items
  pub ranges : All (λ (g : Graph). AreInRange g.edges.items g.nodes) program.graphs.graphs.items
  pub small : length program.graphs.graphs.items < 2 ^ 32
  pub count : length program.configured.items ≡ length program.graphs.graphs.items
  pub places : (t : ℕ) (g : Graph) (c : ConfiguredGraph) → t < length program.graphs.graphs.items
      → All (λ (q : ConfiguredNode). q.place < (get_or program.graphs.graphs.items t g).nodes)
      (get_or program.configured.items t c).nodes.keys
  pub lawful : (p : ProgramBodies)
      → IsProgramOf (laid_tree program.laid) program.graphs.graphs.items program.configured.items program.marks p
      → IsProgram p
