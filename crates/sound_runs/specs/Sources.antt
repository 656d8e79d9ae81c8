-- What the tasks of a program do next, as the soundness theorem reads it, and where the runs of their configured graphs
-- stand.
use Rattle.std.specs.Prelude.{◌≡◌, ℕ, zero, ◌<◌, pos, Bool, true, false, cond, List, [], ◌∷◌, ◌++◌, length}
use Rattle.std.specs.Prelude.{Option, Some, None}
use Rattle.layout_laws.specs.tm_terms.declared.places.Place.{Place}
use Rattle.layout_laws.specs.tm_laid.Layouts.{LaidTree, object_at, cell_at, cell_of, abstract_at, abstract_of}
use Rattle.program_shape.specs.concrete_values.declared.values.Value.{Value}
use Rattle.program_shape.specs.concrete_values.declared.values.Value.TheVariants.{Number}
use Rattle.program_shape.specs.concrete_values.declared.values.Answer.{Answer}
use Rattle.program_shape.specs.concrete_values.declared.values.Answer.TheVariants.{Given, Done}
use Rattle.program_shape.specs.concrete_values.declared.actions.Next.{Next}
use Rattle.program_shape.specs.concrete_values.declared.actions.Next.TheVariants as Acts
use Rattle.program_shape.specs.concrete_values.Values.{nothing}
use Rattle.program_shape.specs.concrete_values.Actions.{is_of, answer_of}
use Rattle.program_shape.specs.concrete_steps.NextAction.{After}
use Rattle.program_shape.specs.flow_graph.declared.graphs.Edge.{Edge}
use Rattle.program_shape.specs.flow_graph.Graphs.{Edges, Among, Leaves, IsPlain}
use Rattle.program_shape.specs.flow_graph.Operations.{Temps, Silent, Asks, effect}
use Rattle.program_shape.specs.flow_graph.Runs.{Memory}
use Rattle.program_shape.specs.flow_graph.Positions.{StandsAt, RunsAlong}
use Rattle.program_shape.specs.mutex_configs.Sets.{with_mutex, without_mutex, IsOfSixteen}
use Rattle.next_action_laws.specs.Actions.{Fit, IsProper}
use Rattle.program_shape.specs.tm_soundness.Worlds.{Action, a_load, a_load_any, a_store, a_choose, a_clear, a_lock}
use Rattle.program_shape.specs.tm_soundness.Worlds.{a_unlock, a_yield}
use Rattle.program_shape.specs.tm_soundness.Worlds.{a_probe, a_fault, a_ended, a_spins, Source}
use Rattle.program_shape.specs.Shape.{Parts, Task, Node, shape_of, MayChoose, IsAddressed, IsPartOf}

-- ## Actions

-- The next action as the theorem has it. A misfit does not come: what it becomes says nothing.
abbrev pub action_of : (x : Parts) → Next → Action (shape_of x) ℕ
action_of x (Acts.Load o k s false p) = a_load (cell_of x.laid o k)
action_of x (Acts.Load o k s true p) = a_load_any (cell_of x.laid o k)
action_of x (Acts.Store o k s v p) = a_store (cell_of x.laid o k) v
action_of x (Acts.Chosen low high) = a_choose
action_of x (Acts.Clear o) = a_clear o
action_of x (Acts.Lock m p) = a_lock m
action_of x (Acts.Unlock m p) = a_unlock m
action_of x Acts.Yield = a_yield
action_of x (Acts.Probe m p) = a_probe m
action_of x (Acts.Fault class p) = a_fault class
action_of x Acts.Ended = a_ended
action_of x Acts.Spins = a_spins
action_of x Acts.Misfit = a_spins

-- where it stands in the source
abbrev pub place_of_next : Next → Option Place
place_of_next (Acts.Load o k s volatile p) = Some p
place_of_next (Acts.Store o k s v p) = Some p
place_of_next (Acts.Lock m p) = Some p
place_of_next (Acts.Unlock m p) = Some p
place_of_next (Acts.Probe m p) = Some p
place_of_next (Acts.Fault class p) = Some p
place_of_next _ = None

-- ## Sets of mutexes

-- what a task holds, and what it has found free
pub record Sets : Type 0 where
  pub held : ℕ
  pub found : ℕ

-- whether a probe was told that the mutex is held
abbrev pub is_told_held : Answer → Bool
is_told_held (Given (Number (pos zero))) = false
is_told_held answer = true

-- after one more answer
abbrev pub sets_with : Next → Answer → Sets → Sets
sets_with (Acts.Lock m p) a s = record { held = with_mutex s.held m; found = 0 }
sets_with (Acts.Unlock m p) a s = record { held = without_mutex s.held m; found = s.found }
sets_with Acts.Yield a s = record { held = s.held; found = 0 }
sets_with (Acts.Probe m p) a s =
    record { held = s.held; found = cond (is_told_held a) s.found (with_mutex s.found m) }
sets_with action a s = s

abbrev pub sets_from : After → List Answer → Sets → Sets
sets_from next [] s = s
sets_from next (a ∷ answers) s = sets_from (λ more. next (a ∷ more)) answers (sets_with (next []) a s)

-- after all answers
abbrev pub sets_after : After → List Answer → Sets
sets_after next answers = sets_from next answers (record { held = 0; found = 0 })

-- ## Where runs stand

-- the temporaries with which control may come to a place of a graph, whatever answers fit
pub data Comes (laid : LaidTree) (g : Edges) : ℕ → Temps → Type 0 where
  comes_first : Comes laid g 0 (λ t. nothing)
  comes_by_itself : {node : ℕ} {temps temps' : Temps} → Comes laid g node temps → (e : Edge) → Leaves g node e
      → effect laid e.op temps ≡ Silent temps' → Comes laid g e.to temps'
  comes_by_answer : {node : ℕ} {temps : Temps} → Comes laid g node temps → (e : Edge) → Leaves g node e
      → (n : Next) (after : Value → Temps) → effect laid e.op temps ≡ Asks n after → (a : Answer) (v : Value)
      → answer_of laid n a ≡ Some v → Comes laid g e.to (after v)

module _ (x : Parts) (next : ℕ → After) where
  abbrev pub node_of : Task x → ℕ → Sets → Node x
  node_of i place s = record { task = i; place = place; held = s.held; found = s.found }

  -- after these answers the task stands at this node of the configured graph with these temporaries
  pub record Stands (i : Task x) (answers : List Answer) (q : Node x) (f : Temps) : Type 0 where
    pub place : ℕ
    pub memory : Memory
    pub stands : StandsAt x.laid (x.graph (x.number i)) (next (x.number i)) answers place memory
    pub comes : Comes x.laid (x.graph (x.number i)) place memory.temps
    pub fit : Fit x.laid (next (x.number i)) answers
    pub node : q ≡ node_of i place (sets_after (next (x.number i)) answers)
    pub temps : f ≡ memory.temps

  -- what the tasks do next after these answers
  abbrev pub source_of : Source (shape_of x)
  source_of = record {
    Answers = List Answer;
    Object = ℕ;
    none = [];
    told = λ a v. a ++ Given v ∷ [];
    acked = λ a. a ++ Done ∷ [];
    next = λ i a. action_of x (next (x.number i) a);
    place = λ i a. place_of_next (next (x.number i) a);
    may_choose = λ i a v. MayChoose x.laid (next (x.number i) a) v;
    typed = λ y v. is_of x.laid (abstract_at x.laid y).scalar v ≡ true;
    part = λ o c. IsPartOf x.laid o c;
    stands = Stands;
  }

-- ## What is asked of programs

-- the cell of an object stands in the layout, with an abstract cell of the same object and of its type
pub record LaysCell (laid : LaidTree) (o k : ℕ) : Type 0 where
  pub within : cell_of laid o k < length laid.cells
  pub abstract : abstract_of laid o k < length laid.abstract_cells
  pub object : (abstract_at laid (abstract_of laid o k)).object ≡ o
  pub scalar : (abstract_at laid (abstract_of laid o k)).scalar ≡ (cell_at laid (cell_of laid o k)).scalar

abbrev pub LaysCells : LaidTree → Type 0
LaysCells laid = (o k : ℕ) → o < length laid.objects → k < (object_at laid o).cells → LaysCell laid o k

-- wherever control comes to an edge that goes on by itself the address of a part or of an element is within its object
abbrev pub KeepsAddresses : LaidTree → Edges → Type 0
KeepsAddresses laid g = (node : ℕ) (temps temps' : Temps) (e : Edge) → Comes laid g node temps → Leaves g node e
    → effect laid e.op temps ≡ Silent temps' → IsAddressed laid e.op temps

-- A graph runs along the next actions of a body, which are proper after all answers that fit.
pub record IsRunning (laid : LaidTree) (g : Edges) (body : ℕ) (next : After) : Type 0 where
  pub along : RunsAlong laid g next
  pub plain : IsPlain g
  pub proper : (answers : List Answer) → Fit laid next answers → IsProper laid body (next answers)
  pub mutexes : (e : Edge) → Among e g → IsOfSixteen e.op
  pub addresses : KeepsAddresses laid g
