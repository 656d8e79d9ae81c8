-- The run of a graph over a list of answers, and the action that follows it.
use Rattle.std.specs.Prelude.{◌≡◌, ℕ, suc, ◌==◌, leb, ◌&&◌, Bool, if◌then◌else◌, List, [], ◌∷◌, Some, None}
use Rattle.concrete_values.specs.tm_laid.Layouts.{LaidTree}
use Rattle.concrete_values.specs.declared.values.Value.{Value}
use Rattle.concrete_values.specs.declared.values.Answer.{Answer}
use Rattle.concrete_values.specs.Values.{nothing}
use Rattle.concrete_values.specs.declared.actions.Next.{Next}
use Rattle.concrete_values.specs.declared.actions.Next.TheVariants.{Fault, Ended, Spins, Misfit}
use Rattle.concrete_values.specs.Actions.{answer_of}
use Rattle.flow_graph.specs.declared.graphs.Edge.{Edge}
use Rattle.flow_graph.specs.Operations.{Temps, put_at, Effect, Silent, Closed, Asks, Breaks, effect}
use Rattle.flow_graph.specs.Graphs.{Edges, leaving}

-- Where a run stands besides its node: the temporaries, the number of answers that it has had, and for each node one
-- more than the number that it had had when it last came there, or 0.
pub record Memory : Type 0 where
  pub temps : Temps
  pub used : ℕ
  pub seen : ℕ → ℕ

abbrev pub arrive : ℕ → ℕ → Temps → Memory → Memory
arrive node used temps m = record { temps = temps; used = used; seen = put_at node (suc used) m.seen }

-- a way back to a head to which the run came with no answer since: it spins
abbrev pub is_round : Edge → Memory → Bool
is_round e m = leb e.to e.from && (m.seen e.to == suc m.used)

-- what the run does at a node
pub data Move : Type 0 where
  Goes : ℕ → Memory → Move
  GoesRound : ℕ → Memory → Move
  -- it waits for an answer to an action, and goes on from this node with its value
  Awaits : Next → ℕ → (Value → Memory) → Move
  Halts : Next → Move

abbrev pub move_by : Effect → Edge → Memory → Move → Move
move_by (Silent t) e m other = if is_round e m then GoesRound e.to (arrive e.to m.used t m) else Goes e.to
    (arrive e.to m.used t m)
move_by Closed e m other = other
move_by (Asks action after) e m other = Awaits action e.to (λ v. arrive e.to (suc m.used) (after v) m)
move_by (Breaks class place) e m other = Halts (Fault class place)

-- by the first of these edges that can be gone; the run ends at a node that none leaves
abbrev pub move_along : LaidTree → Edges → Memory → Move
move_along laid [] m = Halts Ended
move_along laid (e ∷ es) m = move_by (effect laid e.op m.temps) e m (move_along laid es m)

abbrev pub move : LaidTree → Edges → ℕ → Memory → Move
move laid g node m = move_along laid (leaving g node) m

-- nothing follows: an answer to it does not fit
abbrev pub last : Next → List Answer → Next
last n [] = n
last n (a ∷ answers) = Misfit

-- the run of the graph from this node over these answers is followed by this action
pub data Runs (laid : LaidTree) (g : Edges) : ℕ → Memory → List Answer → Next → Type 0 where
  goes : {node node' : ℕ} {m m' : Memory} {answers : List Answer} {n : Next}
      → move laid g node m ≡ Goes node' m' → Runs laid g node' m' answers n → Runs laid g node m answers n
  spins : {node node' : ℕ} {m m' : Memory} {answers : List Answer}
      → move laid g node m ≡ GoesRound node' m' → Runs laid g node m answers (last Spins answers)
  halts : {node : ℕ} {m : Memory} {answers : List Answer} {n : Next}
      → move laid g node m ≡ Halts n → Runs laid g node m answers (last n answers)
  awaits : {node node' : ℕ} {m : Memory} {n : Next} {after : Value → Memory}
      → move laid g node m ≡ Awaits n node' after → Runs laid g node m [] n
  answered : {node node' : ℕ} {m : Memory} {n n' : Next} {after : Value
      → Memory} {a : Answer} {v : Value} {answers : List Answer}
      → move laid g node m ≡ Awaits n node' after → answer_of laid n a ≡ Some v → Runs laid g node' (after v) answers n'
      → Runs laid g node m (a ∷ answers) n'
  unfit : {node node' : ℕ} {m : Memory} {n : Next} {after : Value → Memory} {a : Answer} {answers : List Answer}
      → move laid g node m ≡ Awaits n node' after → answer_of laid n a ≡ None → Runs laid g node m (a ∷ answers) Misfit

-- at the entry node, before any answer
abbrev pub at_entry : Memory
at_entry = record { temps = λ t. nothing; used = 0; seen = put_at 0 1 (λ n. 0) }

-- the action that follows these answers in a run of the graph
abbrev pub GraphNext : LaidTree → Edges → List Answer → Next → Type 0
GraphNext laid g answers n = Runs laid g 0 at_entry answers n
