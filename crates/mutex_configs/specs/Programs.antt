-- Configured programs, and the limits of what is configured.
use Rattle.std.specs.Prelude.{◌≡◌, ◌⊎◌, ◌≤◌, ◌<◌, ℕ, suc, ◌+◌, ◌*◌, ◌==◌, Bool, true, List, [], ◌∷◌, length}
use Rattle.std.specs.Prelude.{filter, Any, Option, Some, None, Result, Ok, Err}
use Rattle.tm_terms.specs.declared.refusals.Fail.{Fail}
use Rattle.tm_terms.specs.declared.refusals.Fail.TheVariants as Fails
use Rattle.tm_terms.specs.declared.refusals.Limit.TheVariants as Limits
use Rattle.tm_laid.specs.declared.cells.AbstractCell.{AbstractCell}
use Rattle.tm_laid.specs.declared.scales.Scale.{Scale}
use Rattle.tm_laid.specs.Scales.{number_on}
use Rattle.tm_laid.specs.Layouts.{LaidTree, object_at, path_at, beyond}
use Rattle.flow_graph.specs.declared.graphs.Graph.{Graph}
use Rattle.mutex_configs.specs.declared.nodes.ConfiguredGraph.{ConfiguredGraph}
use Rattle.mutex_configs.specs.Nodes.{IsConfigured, HasMoreNodes}

-- ## What is counted

-- an object is static, or its path belongs to the body
abbrev pub is_owned_by : LaidTree → ℕ → Option ℕ → Bool
is_owned_by laid body None = true
is_owned_by laid body (Some path) = (path_at laid path).body == body

-- the abstract cell is static or the body's own
abbrev pub is_seen : LaidTree → ℕ → AbstractCell → Bool
is_seen laid body a = is_owned_by laid body (object_at laid a.object).owner

abbrev pub seen_cells : LaidTree → ℕ → ℕ
seen_cells laid body = length (filter (is_seen laid body) laid.abstract_cells)

-- The work of configured graphs, the first of which belongs to this body: for each its nodes times the abstract cells
-- that a state there has.
abbrev pub work_from : LaidTree → ℕ → List ConfiguredGraph → ℕ
work_from laid body [] = 0
work_from laid body (c ∷ cs) = length c.nodes.keys * seen_cells laid body + work_from laid (suc body) cs

-- ## Programs

-- each graph with its configured graph, of at most as many nodes as the limit allows on a scale
abbrev pub AreConfigured : Scale → List Graph → List ConfiguredGraph → Type 0
AreConfigured scale [] [] = Unit {0}
AreConfigured scale [] (c ∷ cs) = ⊥
AreConfigured scale (g ∷ gs) [] = ⊥
AreConfigured scale (g ∷ gs) (c ∷ cs) =
    IsConfigured g.edges.items c × (length c.nodes.keys ≤ number_on scale Limits.Nodes) × AreConfigured scale gs cs

abbrev pub HasTooManyNodes : Scale → List Graph → Type 0
HasTooManyNodes scale gs = Any (λ (g : Graph). HasMoreNodes g.edges.items (number_on scale Limits.Nodes)) gs

-- the configured graphs are more work than the limit allows
pub record HasTooMuchWork (scale : Scale) (laid : LaidTree) (gs : List Graph) : Type 0 where
  pub configured : List ConfiguredGraph
  pub are : AreConfigured scale gs configured
  pub more : number_on scale Limits.Work < work_from laid 0 configured

-- The answer to a layout and its graphs on a scale: their configured graphs, or the first limit that is exceeded.
abbrev pub IsAnswer : Scale → LaidTree → List Graph → Result (List ConfiguredGraph) Fail → Type 0
IsAnswer scale laid gs (Ok cs) = AreConfigured scale gs cs × (work_from laid 0 cs ≤ number_on scale Limits.Work)
IsAnswer scale laid gs (Err (Fails.Refused r)) =
    ((r ≡ beyond Limits.Nodes) × HasTooManyNodes scale gs) ⊎ ((r ≡ beyond Limits.Work) × HasTooMuchWork scale laid gs)
IsAnswer scale laid gs (Err Fails.NoMemory) = Unit {0}
