-- What a layout needs, so that its tasks run in worlds, and what graphs need, so that they run along them.
use Rattle.std.specs.Prelude.{◌≡◌, ℕ, ◌+◌, ◌<◌, ◌≤◌, List, length, get_or, Option, Some, None}
use Rattle.tm_laid.specs.declared.layouts.Laid.{Laid}
use Rattle.tm_laid.specs.Layouts.{LaidTree, laid_tree}
use Rattle.concrete_values.specs.declared.values.Answer.{Answer}
use Rattle.concrete_values.specs.declared.actions.Next.{Next}
use Rattle.concrete_steps.specs.NextAction.{next}
use Rattle.flow_graph.specs.declared.graphs.Graph.{Graph}
use Rattle.flow_graph.specs.Runs.{GraphNext}
use Rattle.graph_positions.specs.Positions.{IsGraph}
use Rattle.task_interpreter.specs.Runnable.{IsRunnable}

-- the next action of each task is told, and there are no more tasks and mutexes than the limits allow
pub record HasWorlds (laid : Laid) : Type 0 where
  pub runnable : IsRunnable laid
  pub tasks : length laid.file.tasks.items ≤ 32
  pub mutexes : length laid.file.mutexes.items ≤ 16

-- the graph of a task, or of the initial section: what follows its run after any answers is what the task does next
pub record IsGraphOfTask (laid : LaidTree) (task : ℕ) (graph : Graph) : Type 0 where
  pub is_graph : IsGraph graph.edges.items graph.nodes
  pub follows : (answers : List Answer) (n : Next) → GraphNext laid graph.edges.items answers n
      → n ≡ next laid task answers

-- how many initial sections there are
abbrev pub section_count : Option ℕ → ℕ
section_count None = 0
section_count (Some f) = 1

-- how many tasks there are, the initial section counted where there is one
abbrev pub task_count : Laid → ℕ
task_count laid = length laid.file.tasks.items + section_count laid.file.main

-- each task has its graph, as has the initial section
pub record HasGraphs (laid : Laid) (graphs : List Graph) : Type 0 where
  pub count : task_count laid ≤ length graphs
  pub each : (task : ℕ) (other : Graph) → task < length graphs
      → IsGraphOfTask (laid_tree laid) task (get_or graphs task other)
