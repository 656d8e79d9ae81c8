-- Positions of a graph.
use Rattle.std.specs.Prelude.{◌≡◌, ℕ, ◌+◌, ◌^◌, ◌<◌, Bool, true, false, List, [], ◌∷◌, length, Some, All}
use Rattle.tm_laid.specs.Layouts.{LaidTree}
use Rattle.concrete_values.specs.declared.values.Answer.{Answer}
use Rattle.concrete_values.specs.declared.actions.Next.TheVariants.{Misfit}
use Rattle.flow_graph.specs.Operations.{given}
use Rattle.flow_graph.specs.Graphs.{Edges}
use Rattle.flow_graph.specs.Runs.{Memory, Runs}
use Rattle.flow_graph.specs.Positions.{Reaches}
use Rattle.graph_facts.specs.Lists.{numbers}
use Rattle.graph_facts.specs.Edges.{AreInRange}
use Rattle.graph_facts.specs.Leaving.{AreLeaving}
use Rattle.graph_positions.specs.declared.positions.Position.{Position}

-- a graph with an entry node, whose edges join its nodes
pub record IsGraph (g : Edges) (nodes : ℕ) : Type 0 where
  pub entry : 0 < nodes
  pub range : AreInRange g nodes

-- every temporary that the graph gives is below this number
abbrev pub IsWide : Edges → ℕ → Type 0
IsWide g count = All (λ e. (t : ℕ) → given e.op ≡ Some t → t < count) g

-- a position of this graph
pub record IsPositionOf (g : Edges) (nodes : ℕ) (p : Position) : Type 0 where
  pub leaving : AreLeaving g nodes (numbers p.leaving.items)
  pub seen : length p.seen.items ≡ nodes
  pub here : p.node < nodes
  pub wide : IsWide g (length p.temporaries.items)
  pub room : p.used + 1 < 2 ^ 64

-- Whether an answer fits where a run stands. Where it does, the run goes on by it; else the run stands where it stood,
-- and this and any more answers do not fit.
abbrev pub IsAnswered : LaidTree → Edges → ℕ → Memory → Answer → Bool → ℕ → Memory → Type 0
IsAnswered laid g node m a true node' m' = Reaches laid g node m (a ∷ []) node' m'
IsAnswered laid g node m a false node' m' = Reaches laid g node m [] node' m'
    × ((answers : List Answer) → Runs laid g node m (a ∷ answers) Misfit)

-- its count of answers has room for one more
abbrev pub HasRoom : Position → Type 0
HasRoom p = p.used + 2 < 2 ^ 64
