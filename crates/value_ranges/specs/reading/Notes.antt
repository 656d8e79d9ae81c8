-- What the code notes of each object: the least and the greatest of the numbers that it has seen so far.
use Rattle.std.specs.Prelude.{◌≡◌, ◌⊎◌, ◌↔◌, ℕ, ◌<◌, nat_le, eqb, ℤ, ◌≤ℤ◌, Bool, true, false, ◌||◌, cond, List, length}
use Rattle.std.specs.Prelude.{get_or, set, slice_get, Contains, Option, Some, None, is_some}
use Rattle.std.specs.FinMap as map
use Rattle.std.specs.FinMap.{get, entries}
use Rattle.tm_lattice.specs.Tables.{Table}
use Rattle.strided_dom.specs.Progression.{Has}
use Rattle.pointer_dom.specs.Values.{Values}
use Rattle.tm_laid.specs.declared.objects.Initial.{Initial}
use Rattle.tm_laid.specs.declared.objects.Initial.TheVariants as Initials
use Rattle.tm_laid.specs.Layouts.{LaidTree, cell_at}
use Rattle.interfere_set.specs.Stores.{Nested, value_or_none}
use Rattle.flow_graph.specs.declared.operations.Operation.{Operation}
use Rattle.flow_graph.specs.declared.operations.Operation.TheVariants as Op
use Rattle.flow_graph.specs.Graphs.{Edges}
use Rattle.mutex_configs.specs.graph_facts.declared.regions.Head.{Head}
use Rattle.mutex_configs.specs.declared.nodes.ConfiguredNode.{ConfiguredNode}
use Rattle.mutex_configs.specs.declared.nodes.EdgeCopy.{EdgeCopy}
use Rattle.program_reports.specs.post_recheck.transfer_rows.StateForms.{State, own_of}
use Rattle.program_reports.specs.post_recheck.table_covers.Solutions.{at}
use Rattle.program_reports.specs.post_recheck.task_equations.Bodies.{Body, no_edge, no_copy}
use Rattle.program_reports.specs.post_recheck.task_equations.Equations.{cells_rounded}
use Rattle.program_reports.specs.post_recheck.program_equations.Programs.{ProgramBodies, body_at}
use Rattle.program_reports.specs.post_recheck.program_equations.Solutions.{table_at}
use Rattle.value_ranges.specs.declared.object_bounds.ObjectBounds.{ObjectBounds}
use Rattle.value_ranges.specs.declared.cells.IntegerCell.{IntegerCell}
use Rattle.value_ranges.specs.Ranges.{IsKeyOf, key_count}
use Rattle.value_ranges.specs.declared.object_bounds.Grouping.{Grouping}

-- ## Bounds that are widened

abbrev pub Noted : Type 0
Noted = Option ObjectBounds

abbrev pub noted_at : List Noted → ℕ → Noted
noted_at noted object = get_or noted object None

-- the number lies within what is noted
abbrev pub IsIn : Noted → ℤ → Type 0
IsIn None n = ⊥
IsIn (Some b) n = (b.low ≤ℤ n) × (n ≤ℤ b.high)

-- the number is the least that is noted, or the greatest
abbrev pub IsLow : Noted → ℤ → Type 0
IsLow None n = ⊥
IsLow (Some b) n = b.low ≡ n

abbrev pub IsHigh : Noted → ℤ → Type 0
IsHigh None n = ⊥
IsHigh (Some b) n = b.high ≡ n

-- what is noted has the object's number
abbrev pub IsNamed : ℕ → Noted → Type 0
IsNamed object None = Unit {0}
IsNamed object (Some b) = b.object ≡ object

-- what is noted of an object is widened by these numbers, and no further
pub record IsWidened (P : ℤ → Type 0) (object : ℕ) (old new : Noted) : Type 0 where
  pub keeps : (n : ℤ) → IsIn old n → IsIn new n
  pub has : (n : ℤ) → P n → IsIn new n
  pub low : (n : ℤ) → IsLow new n → IsLow old n ⊎ P n
  pub high : (n : ℤ) → IsHigh new n → IsHigh old n ⊎ P n
  pub named : IsNamed object old → IsNamed object new

-- what is noted of each object is widened by its numbers
pub record AreWidened (P : ℕ → ℤ → Type 0) (old new : List Noted) : Type 0 where
  pub count : length new ≡ length old
  pub each : (object : ℕ) → IsWidened (P object) object (noted_at old object) (noted_at new object)

-- further bounds of an object are joined to what is noted of it
pub record IsJoined (old : Noted) (more new : ObjectBounds) : Type 0 where
  pub keeps : (n : ℤ) → IsIn old n → IsIn (Some new) n
  pub from : new.low ≤ℤ more.low
  pub to : more.high ≤ℤ new.high
  pub low_is : IsLow old new.low ⊎ (new.low ≡ more.low)
  pub high_is : IsHigh old new.high ⊎ (new.high ≡ more.high)
  pub named : new.object ≡ more.object

-- further bounds of an object are noted
pub record HasNoted (more : ObjectBounds) (old new : List Noted) : Type 0 where
  pub bounds : ObjectBounds
  pub joined : IsJoined (noted_at old more.object) more bounds
  pub is : new ≡ set old more.object (Some bounds)

-- ## Where tables are looked at

-- an operation after which a cell may hold more by itself than before
abbrev pub may_raise : Operation → Bool
may_raise (Op.Store address value scalar into place) = true
may_raise (Op.Clear object) = true
may_raise (Op.Lock mutex place) = true
may_raise (Op.Probe to mutex place) = true
may_raise op = false

-- the node to which a copy of such an edge leads
abbrev pub raised_to : Edges → EdgeCopy → Option ℕ
raised_to edges c = (let e = get_or edges c.edge no_edge in cond (may_raise e.op) c.to None)

-- a node at which cells are rounded; where there is no node, nothing is known
abbrev pub is_head : List Head → List (List ℕ) → Option ConfiguredNode → Bool
is_head heads written None = true
is_head heads written (Some q) = is_some (cells_rounded heads written q.place)

-- a node that is looked at whatever leads there: the first one, heads, or all
abbrev pub is_noted : Bool → List Head → List (List ℕ) → List ConfiguredNode → ℕ → Bool
is_noted all heads written nodes n = all || (eqb n 0 || is_head heads written (slice_get nodes n))

-- ## What is noted

-- it holds for one of the first numbers
abbrev pub Below : (ℕ → Type 0) → ℕ → Type 0
Below Q i = (k : ℕ) × (k < i) × Q k

-- the list has exactly the integer cells of objects of static storage, each with what its numbers are told of
abbrev pub AreIntegerCells : Grouping → LaidTree → List IntegerCell → Type 0
AreIntegerCells by laid cells =
    (object x : ℕ) → Contains cells (record { cell = x; object = object }) ↔ IsKeyOf by laid object x

-- those of the first abstract cells
abbrev pub AreFirstCells : Grouping → LaidTree → ℕ → List IntegerCell → Type 0
AreFirstCells by laid i cells = (object x : ℕ)
    → Contains cells (record { cell = x; object = object }) ↔ (IsKeyOf by laid object x × (x < i))

-- the object of each of them is one of the first
abbrev pub AreOfObjects : List IntegerCell → ℕ → Type 0
AreOfObjects cells count =
    (k : ℕ) (d : IntegerCell) → k < length cells → (let c = get_or cells k d in c.object < count)

abbrev pub no_integer_cell : IntegerCell
no_integer_cell = record { cell = 0; object = 0 }

-- the bounds of what a cell of an object holds at first, if it is a number
abbrev pub first_bounds : ℕ → Initial → Noted
first_bounds object (Initials.Number n) = Some (record { object = object; low = n; high = n })
first_bounds object Initials.Null = None
first_bounds object (Initials.To other offset) = None

-- what a cell holds at first is a number of the object
pub record IsFirst (by : Grouping) (laid : LaidTree) (cell object : ℕ) (n : ℤ) : Type 0 where
  pub within : cell < length laid.cells
  pub of : (let c = cell_at laid cell in IsKeyOf by laid object c.abstract_cell)
  pub is : slice_get laid.initial cell ≡ Some (Initials.Number n)

abbrev pub IsFirstBelow : Grouping → LaidTree → ℕ → ℕ → ℤ → Type 0
IsFirstBelow by laid i object n = Below (λ cell. IsFirst by laid cell object n) i

module _ (cells : List IntegerCell) where
  -- the number is in the value of a cell of the object
  pub record IsInCell (value : ℕ → Values) (object : ℕ) (n : ℤ) (k : ℕ) : Type 0 where
    pub of : (let c = get_or cells k no_integer_cell in c.object ≡ object)
    pub has : (let c = get_or cells k no_integer_cell in let v = value c.cell in Has v.numbers n)

  abbrev pub IsInFirst : (ℕ → Values) → ℕ → ℕ → ℤ → Type 0
  IsInFirst value i object n = Below (IsInCell value object n) i

  abbrev pub IsInValues : (ℕ → Values) → ℕ → ℤ → Type 0
  IsInValues value object n = IsInFirst value (length cells) object n

  -- in the own values of the state of a node
  pub record IsInNode (table : List (Option State)) (object : ℕ) (n : ℤ) (node : ℕ) : Type 0 where
    pub state : State
    pub is : at table node ≡ Some state
    pub has : IsInValues (own_of state) object n

  -- at a node at which the table is looked at
  abbrev pub IsInNoted : (ℕ → Bool) → List (Option State) → ℕ → ℤ → ℕ → Type 0
  IsInNoted looks table object n node = (looks node ≡ true) × IsInNode table object n node

  -- at the node to which a copy of an edge leads that may raise what cells hold
  pub record IsInRaised (edges : Edges) (copies : List EdgeCopy) (table : List (Option State)) (object : ℕ) (n : ℤ)
      (k : ℕ) : Type 0 where
    pub node : ℕ
    pub leads : raised_to edges (get_or copies k no_copy) ≡ Some node
    pub has : IsInNode table object n node

  abbrev pub IsInHeads : (ℕ → Bool) → List (Option State) → ℕ → ℕ → ℤ → Type 0
  IsInHeads looks table i object n = Below (IsInNoted looks table object n) i

  abbrev pub IsInCopies : Edges → List EdgeCopy → List (Option State) → ℕ → ℕ → ℤ → Type 0
  IsInCopies edges copies table i object n = Below (IsInRaised edges copies table object n) i

  -- in the table of what has these parts, at all nodes or where the numbers of cells may be others than before
  abbrev pub IsInParts : Bool → Edges → List ConfiguredNode → List EdgeCopy → List Head → List (List ℕ)
      → List (Option State) → ℕ → ℤ → Type 0
  IsInParts all edges nodes copies heads written table object n =
      IsInHeads (is_noted all heads written nodes) table (length table) object n
      ⊎ IsInCopies edges copies table (length copies) object n

  abbrev pub IsInTable : Bool → Body → List (Option State) → ℕ → ℤ → Type 0
  IsInTable all b table object n = IsInParts all b.edges b.nodes b.copies b.heads b.written table object n

  -- of the tables of the tasks where numbers may be others than before, of that of the initial section at all nodes
  abbrev pub IsInTables : ProgramBodies → List (List (Option State)) → ℕ → ℕ → ℤ → Type 0
  IsInTables p tables i object n =
      Below (λ t. IsInTable (nat_le p.tasks t) (body_at p t) (table_at tables t) object n) i

  -- in what was written with a set of mutexes held
  abbrev pub held_at : Table (Table Values) → ℕ → Table Values
  held_at written k = (get_or (entries written) k (0, map.empty)).1

  abbrev pub written_at : Nested → ℕ → Table (Table Values)
  written_at weak k = (get_or (entries weak) k (0, map.empty)).1

  abbrev pub IsInTableOf : Table Values → ℕ → ℤ → Type 0
  IsInTableOf held object n = IsInValues (λ x. value_or_none (get held x)) object n

  abbrev pub IsInWritten : Table (Table Values) → ℕ → ℕ → ℤ → Type 0
  IsInWritten written i object n = Below (λ k. IsInTableOf (held_at written k) object n) i

  abbrev pub IsInWeak : Nested → ℕ → ℕ → ℤ → Type 0
  IsInWeak weak i object n =
      Below (λ k. (let w = written_at weak k in IsInWritten w (length (entries w)) object n)) i

-- ## Lists of bounds

-- exactly what is noted, in order
pub record AreListed (noted : List Noted) (i : ℕ) (list : List ObjectBounds) : Type 0 where
  pub rising : (k l : ℕ) (d : ObjectBounds) → k < l → l < length list
      → (let b = get_or list k d in let c = get_or list l d in b.object < c.object)
  pub exact : (b : ObjectBounds) → Contains list b ↔ Below (λ o. noted_at noted o ≡ Some b) i

-- ## All that is noted

-- nothing was noted before, and what is noted is widened by the numbers that are seen
pub record AreNotedIn (by : Grouping) (laid : LaidTree) (p : ProgramBodies) (tables : List (List (Option State)))
    (weak : Nested) (noted : List Noted) : Type 0 where
  pub cells : List IntegerCell
  pub are : AreIntegerCells by laid cells
  pub count : length noted ≡ key_count by laid
  pub each : (object : ℕ) → IsWidened (λ n. IsFirstBelow by laid (length laid.initial) object n
      ⊎ (IsInTables cells p tables (length tables) object n ⊎ IsInWeak cells weak (length (entries weak)) object n))
      object None (noted_at noted object)
