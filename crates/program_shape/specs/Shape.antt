-- A program as the soundness theorem reads it: its tasks, its cells, and the configured copies of the edges of its
-- graphs. The initial section is such a program too, of one task.
use Rattle.std.specs.Prelude.{◌≡◌, ℕ, ◌<◌, nat_lt, pos, ◌*ℤ◌, cond, Bool, true, false, length, Option, Some, None}
use Rattle.std.specs.Prelude.{IsSome, Contains, refl}
use Rattle.std.proofs.Common.{suc, zero, inl, inr}
use native.Mathlib.Decide.{ℕ_discrete, dec_lt}
use Rattle.concrete_steps.specs.tm_cint.declared.Class.{Class}
use Rattle.concrete_steps.specs.tm_cint.declared.Class.TheVariants as Classes
use Rattle.concrete_steps.specs.tm_terms.declared.places.Place.{Place}
use Rattle.concrete_steps.specs.tm_typed.declared.types.Scalar.{Scalar}
use Rattle.concrete_steps.specs.tm_typed.declared.types.Scalar.TheVariants as Scalars
use Rattle.concrete_steps.specs.tm_laid.Layouts.{LaidTree, path_at, object_at, cell_at, cell_of, abstract_at}
use Rattle.concrete_steps.specs.concrete_values.declared.values.Pointer.TheVariants as Pointers
use Rattle.concrete_steps.specs.concrete_values.declared.values.Value.{Value}
use Rattle.concrete_steps.specs.concrete_values.declared.values.Value.TheVariants.{Number, Pointer as APointer}
use Rattle.concrete_steps.specs.concrete_values.declared.actions.Next.{Next}
use Rattle.concrete_steps.specs.concrete_values.declared.actions.Next.TheVariants as Acts
use Rattle.concrete_steps.specs.concrete_values.Values.{truth_value, number_of as number_in_value, pointer_of}
use Rattle.concrete_steps.specs.concrete_values.Pointers.{shifted}
use Rattle.concrete_steps.specs.concrete_values.Actions.{is_of, is_between}
use Rattle.concrete_steps.specs.Worlds.{is_part}
use Rattle.mutex_configs.specs.flow_graph.declared.operations.Operation.{Operation as GraphOperation}
use Rattle.mutex_configs.specs.flow_graph.declared.operations.Operation.TheVariants as Op
use Rattle.mutex_configs.specs.flow_graph.declared.graphs.Edge.{Edge}
use Rattle.mutex_configs.specs.flow_graph.Graphs.{Edges, Among, Leaves}
use Rattle.mutex_configs.specs.flow_graph.Operations.{Temps, put_at, Silent, Asks, Breaks, effect}
use Rattle.mutex_configs.specs.Sets.{answers_of, has, held_after, found_after}
use Rattle.tm_soundness.specs.Shape.{Shape, Operation, calculation, load, load_any, store, clear, lock, unlock, yields}
use Rattle.tm_soundness.specs.Shape.{probe, Content, given, open_cell}
use Rattle.tm_soundness.specs.Section.{Section}
use Rattle.tm_soundness.specs.Numbered.{TaskOf, same_task_of}

-- ## Operations

-- the operation as the theorem has it; the answer is that of a probe
abbrev pub operation_of : GraphOperation → Bool → Operation ℕ ℕ
operation_of (Op.Load to address scalar place) answer = load address to
operation_of (Op.LoadAny to address scalar place) answer = load_any address
operation_of (Op.Store address value scalar into place) answer = store address value
operation_of (Op.Clear object) answer = clear
operation_of (Op.Lock mutex place) answer = lock mutex
operation_of (Op.Unlock mutex place) answer = unlock mutex
operation_of Op.Yield answer = yields
operation_of (Op.Probe to mutex place) answer = probe mutex to answer
operation_of operation answer = calculation

-- where an operation stands in the source, if an error or an access may stand there
abbrev pub place_at : GraphOperation → Option Place
place_at (Op.Un to operator of from place) = Some place
place_at (Op.Bin to operator of left right place) = Some place
place_at (Op.Index to from length cells by place) = Some place
place_at (Op.Move to from cells minus by place) = Some place
place_at (Op.Deref to from target path place) = Some place
place_at (Op.Load to address scalar place) = Some place
place_at (Op.LoadAny to address scalar place) = Some place
place_at (Op.Store address value scalar into place) = Some place
place_at (Op.Usable pointer place) = Some place
place_at (Op.Lock mutex place) = Some place
place_at (Op.Unlock mutex place) = Some place
place_at (Op.Probe to mutex place) = Some place
place_at operation = None

-- the values that an action leaves open: those of its bounds, and for a volatile load the numbers of its type
abbrev pub MayChoose : LaidTree → Next → Value → Type 0
MayChoose laid (Acts.Chosen low high) v = is_between low high v ≡ true
MayChoose laid (Acts.Load o k s true p) (Number n) = is_of laid s (Number n) ≡ true
MayChoose laid _ _ = ⊥

-- The address of a part or of an element stays within its object, one past its last cell included. So it is in every
-- run: a part and an element are taken where a structure or an array stands.
abbrev pub IsAddressed : LaidTree → GraphOperation → Temps → Type 0
IsAddressed laid (Op.Offset to from cells) temps = IsSome (shifted laid (pointer_of (temps from)) (pos cells))
IsAddressed laid (Op.Index to from length cells by place) temps =
    IsSome (shifted laid (pointer_of (temps from)) (number_in_value (temps by) *ℤ pos cells))
IsAddressed laid operation temps = Unit {0}

-- what an operation may do to the temporaries: it goes on by itself, or with a value that is chosen
pub data Does (laid : LaidTree) (operation : GraphOperation) (temps temps' : Temps) : Type 0 where
  by_itself : IsAddressed laid operation temps → effect laid operation temps ≡ Silent temps'
      → Does laid operation temps temps'
  by_choice : (n : Next) (after : Value → Temps) (v : Value) → effect laid operation temps ≡ Asks n after
      → MayChoose laid n v → temps' ≡ after v → Does laid operation temps temps'

pub record Fails (laid : LaidTree) (operation : GraphOperation) (temps : Temps) (class : Class) : Type 0 where
  pub place : Place
  pub breaks : effect laid operation temps ≡ Breaks class place

-- ## Programs

-- What is read of a layout; how many tasks there are, the numbers of their bodies, and how urgent they are; and the
-- graphs of bodies, by their numbers.
pub record Parts : Type 0 where
  pub laid : LaidTree
  pub tasks : ℕ
  pub number : TaskOf tasks → ℕ
  pub rank : ℕ → ℕ
  pub graph : ℕ → Edges

-- tasks by number: the last of so many has the greatest
abbrev pub number_of : (n : ℕ) → TaskOf n → ℕ
number_of zero i = absurd i
number_of (suc zero) i = 0
number_of (suc (suc n)) (inl u) = suc n
number_of (suc (suc n)) (inr i) = number_of (suc n) i

-- ## Cells

-- what a cell holds that is cleared
abbrev pub cleared_as : Scalar → Content Value
cleared_as (Scalars.Int t) = open_cell
cleared_as (Scalars.Pointer class) = given (APointer Pointers.Invalid)

-- an access of the operation has the type
abbrev pub HasType : GraphOperation → Scalar → Type 0
HasType (Op.Load to address scalar place) s = s ≡ scalar
HasType (Op.LoadAny to address scalar place) s = s ≡ scalar
HasType (Op.Store address value scalar into place) s = s ≡ scalar
HasType operation s = ⊥

module _ (laid : LaidTree) where
  -- the abstract cell that stands for a cell; one that there is not where there is no such cell
  abbrev pub abstract_of_cell : ℕ → ℕ
  abstract_of_cell c = cond (nat_lt c (length laid.cells)) (cell_at laid c).abstract_cell (length laid.abstract_cells)

  -- the abstract cell is of an object of static storage
  pub record IsShared (x : ℕ) : Type 0 where
    pub within : x < length laid.abstract_cells
    pub static : (object_at laid (abstract_at laid x).object).owner ≡ None

  -- it is of an object on a call path of the body
  pub record IsOwned (x body : ℕ) : Type 0 where
    pub within : x < length laid.abstract_cells
    pub path : ℕ
    pub owner : (object_at laid (abstract_at laid x).object).owner ≡ Some path
    pub own : (path_at laid path).body ≡ body

  -- the pointer leads to the cell
  pub record Points (v : Value) (c : ℕ) : Type 0 where
    pub object : ℕ
    pub offset : ℕ
    pub is : v ≡ APointer (Pointers.To object offset)
    pub inside : offset < (object_at laid object).cells
    pub there : cell_of laid object offset ≡ c

  -- the cell is one of the object's
  pub record IsPartOf (o c : ℕ) : Type 0 where
    pub within : c < length laid.cells
    pub part : is_part laid o c ≡ true

  -- the operation clears the cell
  abbrev pub Clears : GraphOperation → ℕ → Type 0
  Clears (Op.Clear object) c = IsPartOf object c
  Clears operation c = ⊥

-- ## Sets of mutexes

-- the mutex is one of sixteen, and in the set
pub record Has (l m : ℕ) : Type 0 where
  pub small : m < 16
  pub is : has l m ≡ true

module _ (x : Parts) where
  abbrev pub Task : Type 0
  Task = TaskOf x.tasks

  -- ## Nodes and copies of edges

  -- a place in the graph of a task's body, what is held there, and what was found free
  pub record Node : Type 0 where
    pub task : Task
    pub place : ℕ
    pub held : ℕ
    pub found : ℕ

  -- an edge of a task's graph at these sets; a probe has two copies, one for each answer
  pub record Copy : Type 0 where
    pub actor : Task
    pub edge : Edge
    pub among : Among edge (x.graph (x.number actor))
    pub held : ℕ
    pub found : ℕ
    pub answer : Bool
    pub answered : Contains (answers_of edge.op) answer

  abbrev pub from_of : Copy → Node
  from_of e = record { task = e.actor; place = e.edge.from; held = e.held; found = e.found }

  abbrev pub to_of : Copy → Node
  to_of e = record {
    task = e.actor;
    place = e.edge.to;
    held = held_after e.edge.op e.held;
    found = found_after e.edge.op e.answer e.found;
  }

  -- nothing but locks leaves
  abbrev pub IsResting : Node → Type 0
  IsResting q = (e : Edge) → Leaves (x.graph (x.number q.task)) q.place e
      → (m : ℕ) × (p : Place) × (e.op ≡ Op.Lock m p)

  abbrev pub IsEnd : Node → Type 0
  IsEnd q = (e : Edge) → Leaves (x.graph (x.number q.task)) q.place e → ⊥

pub truth : (b : Bool) → Dec (b ≡ true)
truth true = yes refl
truth false = no (λ e. cc)

pub both : (l m : ℕ) → Dec (m < 16) → Dec (has l m ≡ true) → Dec (Has l m)
both l m (yes a) (yes b) = yes (record { small = a; is = b })
both l m (no a) b = no (λ h. a h.small)
both l m (yes a) (no b) = no (λ h. b h.is)

abbrev pub is_in : (l m : ℕ) → Dec (Has l m)
is_in l m = both l m (dec_lt m 16) (truth (has l m))

abbrev pub shape_of : Parts → Shape
shape_of x = record {
  Task = TaskOf x.tasks;
  Mutex = ℕ;
  Held = ℕ;
  Cell = ℕ;
  AbstractCell = ℕ;
  Temporary = ℕ;
  Value = Value;
  Valuation = Temps;
  Node = Node x;
  Edge = Copy x;
  Class = Class;
  Place = Option Place;
  same_task = same_task_of x.tasks;
  same_mutex = ℕ_discrete;
  same_cell = ℕ_discrete;
  rank = λ i. x.rank (x.number i);
  Has = Has;
  has = is_in;
  abstract_cell = abstract_of_cell x.laid;
  shared = IsShared x.laid;
  owned = λ y i. IsOwned x.laid y (x.number i);
  in_range = λ y v. is_of x.laid (abstract_at x.laid y).scalar v ≡ true;
  cleared = λ c. cleared_as (cell_at x.laid c).scalar;
  value_of = λ f t. f t;
  put = λ f t v. put_at t v f;
  points = Points x.laid;
  bit = truth_value;
  actor = λ e. e.actor;
  from = from_of x;
  to = to_of x;
  operation = λ e. operation_of e.edge.op e.answer;
  place = λ e. place_at e.edge.op;
  does = λ e f f'. Does x.laid e.edge.op f f';
  fails = λ e f k. Fails x.laid e.edge.op f k;
  lock_class = Classes.Lock;
  fits = λ e c. HasType e.edge.op (cell_at x.laid c).scalar;
  clears = λ e c. Clears x.laid e.edge.op c;
  entry = λ i. record { task = i; place = 0; held = 0; found = 0 };
  held = λ q. q.held;
  found = λ q. q.found;
  resting = IsResting x;
  ends = IsEnd x;
}

-- ## The initial section

-- the initial section of a program, whose body has this number, as a program of one task
abbrev pub section_parts : Parts → ℕ → Parts
section_parts x main = record {
  laid = x.laid;
  tasks = 1;
  number = λ _. main;
  rank = λ _. 0;
  graph = x.graph;
}

-- and as the part of a whole that runs before the tasks
abbrev pub section_of : (x : Parts) → ℕ → Section (shape_of x)
section_of x main = (let y = shape_of (section_parts x main) in record {
  Node = Node (section_parts x main);
  Edge = Copy (section_parts x main);
  owned = λ a. IsOwned x.laid a main;
  from = from_of (section_parts x main);
  to = to_of (section_parts x main);
  operation = y.operation;
  place = y.place;
  does = y.does;
  fails = y.fails;
  fits = y.fits;
  clears = y.clears;
  entry = y.entry tt;
  held = y.held;
  found = y.found;
  resting = y.resting;
  ends = y.ends;
})
