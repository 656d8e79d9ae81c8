-- Steps of a run, by the numbers of edges.
use Rattle.std.specs.Prelude.{◌≡◌, ℕ, suc, ◌<◌, false, if◌then◌else◌, Option, Some, None, length, get_or}
use Rattle.tm_laid.specs.Layouts.{LaidTree}
use Rattle.concrete_values.specs.declared.values.Value.{Value}
use Rattle.concrete_values.specs.declared.actions.Next.TheVariants as Acts
use Rattle.flow_graph.specs.declared.graphs.Edge.{Edge}
use Rattle.flow_graph.specs.declared.operations.Operation.TheVariants as Op
use Rattle.flow_graph.specs.Operations.{given, kept_with}
use Rattle.flow_graph.specs.Graphs.{Edges}
use Rattle.flow_graph.specs.Runs.{Memory, arrive, is_round, Move, Goes, GoesRound, Awaits, Halts, move}
use Rattle.graph_positions.specs.declared.outcomes.Outcome.{Outcome}
use Rattle.graph_positions.specs.declared.outcomes.Outcome.TheVariants as Outcomes
use Rattle.graph_positions.specs.declared.steps.Step.{Step}
use Rattle.graph_positions.specs.declared.steps.Step.TheVariants as Steps

abbrev pub no_edge : Edge
no_edge = record { from = 0; to = 0; op = Op.Skip }

abbrev pub edge_at : Edges → ℕ → Edge
edge_at g k = get_or g k no_edge

-- the memory behind an edge, whose temporary gets this value, after so many answers
abbrev pub behind : Edge → ℕ → Value → Memory → Memory
behind e used value m = arrive e.to used (kept_with (given e.op) value m.temps) m

-- the step along an edge, if it can be gone
abbrev pub step_along : ℕ → Edge → Memory → Outcome → Option Step
step_along k e m (Outcomes.Gives value) = Some (if is_round e m then Steps.Round k value else Steps.Goes k value)
step_along k e m Outcomes.Shut = None
step_along k e m (Outcomes.Asks action) = Some (Steps.Awaits k action)
step_along k e m (Outcomes.Fails class place) = Some (Steps.Halts (Acts.Fault class place))

-- the move that a step stands for
abbrev pub move_of : Edges → Memory → Step → Move
move_of g m (Steps.Goes k value) = Goes (edge_at g k).to (behind (edge_at g k) m.used value m)
move_of g m (Steps.Round k value) = GoesRound (edge_at g k).to (behind (edge_at g k) m.used value m)
move_of g m (Steps.Awaits k action) = Awaits action (edge_at g k).to (λ v. behind (edge_at g k) (suc m.used) v m)
move_of g m (Steps.Halts action) = Halts action

-- an edge that leaves a node, by its number
pub record LeavesBy (g : Edges) (node k : ℕ) : Type 0 where
  pub within : k < length g
  pub from : (edge_at g k).from ≡ node

-- a step is along an edge that leaves the node, and one that goes on is not round
abbrev pub IsAlong : Edges → ℕ → Memory → Step → Type 0
IsAlong g node m (Steps.Goes k value) = LeavesBy g node k × (is_round (edge_at g k) m ≡ false)
IsAlong g node m (Steps.Round k value) = Unit {0}
IsAlong g node m (Steps.Awaits k action) = LeavesBy g node k
IsAlong g node m (Steps.Halts action) = Unit {0}

-- what the run does at a node
pub record IsStepAt (laid : LaidTree) (g : Edges) (node : ℕ) (m : Memory) (s : Step) : Type 0 where
  pub is : move laid g node m ≡ move_of g m s
  pub along : IsAlong g node m s

abbrev pub IsStop : Step → Type 0
IsStop (Steps.Goes k value) = ⊥
IsStop _ = Unit {0}
