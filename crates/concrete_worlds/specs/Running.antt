-- Worlds whose tasks stand where their answers have led them.
use Rattle.std.specs.Prelude.{ℕ, ◌<◌, ◌≤◌, List, [], length, map, get_or, vec_items}
use Rattle.tm_laid.specs.declared.layouts.Laid.{Laid}
use Rattle.tm_laid.specs.Layouts.{laid_tree}
use Rattle.concrete_values.specs.declared.values.Answer.{Answer}
use Rattle.flow_graph.specs.declared.graphs.Graph.{Graph}
use Rattle.graph_positions.specs.declared.runs.Run.{Run}
use Rattle.graph_positions.specs.Positions.{HasRoom as HasRoomAt}
use Rattle.graph_positions.specs.RunsAfter.{IsRunAfter}
use Rattle.concrete_worlds.specs.declared.worlds.World.{World}
use Rattle.concrete_worlds.specs.Lawful.{HasWorlds, IsGraphOfTask}
use Rattle.concrete_worlds.specs.Views.{RoomAt}

-- The tasks of these runs have graphs, and each one's run along its graph is that after its answers. Tasks behind them
-- have no run: what they do next is found from their answers alone.
pub record AreRunning (laid : Laid) (graphs : List Graph) (answers : List (List Answer))
    (runs : List Run) : Type 0 where
  pub worlds : HasWorlds laid
  pub graphed : length runs ≤ length graphs
  pub answered : length runs ≤ length answers
  pub lawful : (task : ℕ) (graph : Graph) → task < length runs
      → IsGraphOfTask (laid_tree laid) task (get_or graphs task graph)
  pub each : (task : ℕ) (run : Run) (graph : Graph) → task < length runs
      → IsRunAfter (laid_tree laid) (get_or graphs task graph).edges.items (get_or graphs task graph).nodes
      (get_or answers task []) (get_or runs task run)

-- a world whose tasks do as their answers say
abbrev pub IsWorld : World → Type 0
IsWorld w = AreRunning w.laid.now w.graphs.now (map vec_items w.answers.items) w.runs.items

-- each list and each run has room for one more answer
pub record HasRoom (w : World) : Type 0 where
  pub answers : (task : ℕ) → RoomAt w.answers.items task
  pub runs : (task : ℕ) (run : Run) → task < length w.runs.items → HasRoomAt (get_or w.runs.items task run).position
