-- Where the run of a graph stands after some answers, and the steps along edges that lead there.
use Rattle.std.specs.Prelude.{◌≡◌, ℕ, List, [], ◌∷◌, ◌++◌, Some}
use Rattle.concrete_values.specs.tm_cint.declared.Class.{Class}
use Rattle.concrete_values.specs.tm_terms.declared.places.Place.{Place}
use Rattle.concrete_values.specs.tm_laid.Layouts.{LaidTree}
use Rattle.concrete_values.specs.declared.values.Value.{Value}
use Rattle.concrete_values.specs.declared.values.Answer.{Answer}
use Rattle.concrete_values.specs.declared.actions.Next.{Next}
use Rattle.concrete_values.specs.declared.actions.Next.TheVariants.{Fault, Ended, Spins}
use Rattle.concrete_values.specs.Actions.{answer_of}
use Rattle.flow_graph.specs.declared.graphs.Edge.{Edge}
use Rattle.flow_graph.specs.Operations.{Temps, Silent, Asks, Breaks, effect}
use Rattle.flow_graph.specs.Graphs.{Edges, leaving, Leaves}
use Rattle.flow_graph.specs.Runs.{Memory, Move, Goes, GoesRound, Awaits, Halts, move, at_entry}

-- one step by itself, along an edge
pub record Silently (laid : LaidTree) (g : Edges) (node : ℕ) (m : Memory) (node' : ℕ) (m' : Memory) : Type 0 where
  pub edge : Edge
  pub leaves : Leaves g node edge
  pub there : edge.to ≡ node'
  pub does : effect laid edge.op m.temps ≡ Silent m'.temps

-- any number of steps by itself
pub data Drifts (laid : LaidTree) (g : Edges) : ℕ → Memory → ℕ → Memory → Type 0 where
  stays : {node : ℕ} {m : Memory} → Drifts laid g node m node m
  drifts : {node node1 node' : ℕ} {m m1 m' : Memory}
      → Silently laid g node m node1 m1 → Drifts laid g node1 m1 node' m' → Drifts laid g node m node' m'

-- the run has come this far with these answers
pub data Reaches (laid : LaidTree) (g : Edges) : ℕ → Memory → List Answer → ℕ → Memory → Type 0 where
  here : {node : ℕ} {m : Memory} → Reaches laid g node m [] node m
  went : {node node1 node' : ℕ} {m m1 m' : Memory} {answers : List Answer}
      → move laid g node m ≡ Goes node1 m1 → Reaches laid g node1 m1 answers node' m'
      → Reaches laid g node m answers node' m'
  gave : {node node1 node' : ℕ} {m m' : Memory} {answers : List Answer} {n : Next} {after : Value
      → Memory} {a : Answer} {v : Value}
      → move laid g node m ≡ Awaits n node1 after → answer_of laid n a ≡ Some v → Reaches laid g node1
      (after v) answers node' m'
      → Reaches laid g node m (a ∷ answers) node' m'

-- the move is this next action, and goes nowhere by itself
abbrev pub Is : Move → Next → Type 0
Is (Goes node m) x = ⊥
Is (GoesRound node m) x = x ≡ Spins
Is (Awaits n node after) x = x ≡ n
Is (Halts n) x = x ≡ n

-- a task of this graph stands at this position after these answers
abbrev pub StandsAt : LaidTree → Edges → (List Answer → Next) → List Answer → ℕ → Memory → Type 0
StandsAt laid g next_is answers node m = Reaches laid g 0 at_entry answers node m × Is (move laid g node m)
    (next_is answers)

-- an answer leads along this edge, and then by itself to where the task stands after it
pub record GoesOn (laid : LaidTree) (g : Edges) (next_is : List Answer → Next) (answers : List Answer) (edge : Edge)
    (temps : Temps) (a : Answer) : Type 0 where
  pub first : Memory
  pub given : first.temps ≡ temps
  pub node : ℕ
  pub memory : Memory
  pub drifts : Drifts laid g edge.to first node memory
  pub stands : StandsAt laid g next_is (answers ++ a ∷ []) node memory

-- an edge that leaves the node waits for an answer to this action, and each answer that fits leads along it
pub record Asking (laid : LaidTree) (g : Edges) (next_is : List Answer → Next) (answers : List Answer) (node : ℕ)
    (m : Memory) (n : Next) : Type 0 where
  pub edge : Edge
  pub after : Value → Temps
  pub leaves : Leaves g node edge
  pub asks : effect laid edge.op m.temps ≡ Asks n after
  pub on : (a : Answer) (v : Value) → answer_of laid n a ≡ Some v → GoesOn laid g next_is answers edge (after v) a

-- what stops a task where it stands, and what comes then
pub data Stops (laid : LaidTree) (g : Edges) (next_is : List Answer → Next) (answers : List Answer) (node : ℕ)
    (m : Memory) : Next → Type 0 where
  asking : {n : Next} → Asking laid g next_is answers node m n → Stops laid g next_is answers node m n
  breaking : {class : Class} {place : Place} (e : Edge) → Leaves g node e
      → effect laid e.op m.temps ≡ Breaks class place
      → Stops laid g next_is answers node m (Fault class place)
  -- the next step leads by itself back to a head to which it came with no answer since
  spinning : (node' : ℕ) (m' : Memory) → Silently laid g node m node' m' → Stops laid g next_is answers node m Spins
  ending : leaving g node ≡ [] → Stops laid g next_is answers node m Ended

-- The graph runs as these next actions say, step for step: at first the task drifts to where it stands; and where it
-- stands, its next action is what stops it.
pub record RunsAlong (laid : LaidTree) (g : Edges) (next_is : List Answer → Next) : Type 0 where
  pub node : ℕ
  pub memory : Memory
  pub drifts : Drifts laid g 0 at_entry node memory
  pub stands : StandsAt laid g next_is [] node memory
  pub stops : (answers : List Answer) (node : ℕ) (m : Memory) → StandsAt laid g next_is answers node m
      → Stops laid g next_is answers node m (next_is answers)
