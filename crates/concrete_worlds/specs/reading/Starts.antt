-- Runs before any answer.
use Rattle.std.specs.Prelude.{◌≡◌, ◌⊎◌, ℕ, ◌<◌, List, [], length, get_or}
use Rattle.tm_laid.specs.declared.layouts.Laid.{Laid}
use Rattle.tm_laid.specs.Layouts.{LaidTree, laid_tree}
use Rattle.concrete_steps.specs.NextAction.{next}
use Rattle.flow_graph.specs.declared.graphs.Graph.{Graph}
use Rattle.graph_positions.specs.declared.runs.Run.{Run}
use Rattle.graph_positions.specs.RunsAfter.{IsRunAfter}
use Rattle.concrete_worlds.specs.Lawful.{task_count, HasGraphs}

-- so many runs, each along the graph of its number and before any answer
pub record AreStarted (laid : LaidTree) (graphs : List Graph) (count : ℕ) (runs : List Run) : Type 0 where
  pub number : length runs ≡ count
  pub each : (task : ℕ) (run : Run) (graph : Graph) → task < length runs
      → IsRunAfter laid (get_or graphs task graph).edges.items (get_or graphs task graph).nodes []
      (get_or runs task run)

-- what each of these runs does next, before any answer
abbrev pub BeginSo : LaidTree → List Run → Type 0
BeginSo laid runs = (task : ℕ) (run : Run) → task < length runs → (get_or runs task run).next ≡ next laid task []

-- the runs of a world at its start: none, or those of all tasks
abbrev pub MayStart : Laid → List Graph → List Run → Type 0
MayStart laid graphs runs = (runs ≡ [])
    ⊎ (HasGraphs laid graphs × AreStarted (laid_tree laid) graphs (task_count laid) runs)
