-- Runs of a graph after some answers.
use Rattle.std.specs.Prelude.{ℕ, Bool, true, false, List, ◌++◌}
use Rattle.tm_laid.specs.Layouts.{LaidTree}
use Rattle.concrete_values.specs.declared.values.Answer.{Answer}
use Rattle.concrete_values.specs.declared.actions.Next.TheVariants.{Misfit}
use Rattle.flow_graph.specs.Graphs.{Edges}
use Rattle.flow_graph.specs.Runs.{Memory, at_entry, GraphNext}
use Rattle.flow_graph.specs.Positions.{Reaches}
use Rattle.graph_positions.specs.declared.runs.Run.{Run}
use Rattle.graph_positions.specs.Memories.{memory_of}
use Rattle.graph_positions.specs.Positions.{IsPositionOf}

-- where all answers fit they lead from the entry to where the run stands, and where one does not, neither do any more
abbrev pub HaveLed : LaidTree → Edges → List Answer → Bool → ℕ → Memory → Type 0
HaveLed laid g answers true node m = Reaches laid g 0 at_entry answers node m
HaveLed laid g answers false node m = (more : List Answer) → GraphNext laid g (answers ++ more) Misfit

-- the run of the graph after these answers
pub record IsRunAfter (laid : LaidTree) (g : Edges) (nodes : ℕ) (answers : List Answer) (run : Run) : Type 0 where
  pub position : IsPositionOf g nodes run.position
  pub next : GraphNext laid g answers run.next
  pub led : HaveLed laid g answers run.fits run.position.node (memory_of run.position)
