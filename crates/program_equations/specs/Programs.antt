-- A program as its bodies, and what it keeps of which the equations are solved.
use Rattle.std.specs.Prelude.{◌≡◌, ℕ, suc, ◌<◌, ◌≤◌, ℤ, Bool, true, false, List, [], ◌∷◌, ◌++◌, length, map}
use Rattle.std.specs.Prelude.{get_or}
use Rattle.region_cells.specs.tm_typed.declared.files.TypedTask.{TypedTask}
use Rattle.region_cells.specs.tm_typed.declared.types.Scalar.{Scalar}
use Rattle.region_cells.specs.tm_laid.Layouts.{LaidTree, abstract_at, cell_at}
use Rattle.region_cells.specs.flow_graph.declared.graphs.Graph.{Graph}
use Rattle.region_cells.specs.flow_graph.declared.operations.Operation.{Operation}
use Rattle.region_cells.specs.flow_graph.declared.operations.Operation.TheVariants as Op
use Rattle.region_cells.specs.flow_graph.Graphs.{Edges}
use Rattle.edge_filters.specs.transfer_rows.Actions.{Spot}
use Rattle.edge_filters.specs.transfer_rows.Meanings.{IsSpotOf}
use Rattle.edge_filters.specs.edge_actions.Layouts.{spots_of}
use Rattle.edge_filters.specs.Tests.{IsTestable}
use Rattle.region_cells.specs.graph_facts.Live.{AreLive}
use Rattle.region_cells.specs.graph_facts.Heads.{AreHeads}
use Rattle.region_cells.specs.Written.{AreAllWritten}
use Rattle.task_equations.specs.mutex_configs.declared.nodes.ConfiguredGraph.{ConfiguredGraph}
use Rattle.task_equations.specs.temporary_types.Sorts.{Sort}
use Rattle.task_equations.specs.temporary_types.PointerMarks.{pointer_marks}
use Rattle.task_equations.specs.temporary_types.Temporaries.{temporaries_in}
use Rattle.task_equations.specs.typed_values.Types.{IsOfType}
use Rattle.task_equations.specs.Bodies.{Body, no_edge, node_at, live_at}
use Rattle.task_equations.specs.Premises.{IsBody}
use Rattle.program_equations.specs.Readings.{read_layout}
use Rattle.program_equations.specs.Entries.{initial_at}

-- ## Programs

-- What the equations read of a layout, thresholds, how many tasks there are and their priorities, and the bodies: those
-- of the tasks by their numbers, then the initial section where there is one.
pub record ProgramBodies : Type 0 where
  pub laid : LaidTree
  pub marks : List ℤ
  pub tasks : ℕ
  pub priorities : List ℕ
  pub bodies : List Body

-- what stands in place of a body that there is not
abbrev pub no_body : ProgramBodies → Body
no_body p = record {
  laid = p.laid;
  task = 0;
  priorities = p.priorities;
  edges = [];
  nodes = [];
  copies = [];
  marks = p.marks;
  live = [];
  pointers = [];
  heads = [];
  written = [];
}

abbrev pub body_at : ProgramBodies → ℕ → Body
body_at p t = get_or p.bodies t (no_body p)

-- the initial section has the number of tasks
abbrev pub HasSection : ProgramBodies → Type 0
HasSection p = p.tasks < length p.bodies

-- ## The program of a layout

-- the priorities of the tasks, and that of the initial section, which hears nobody
abbrev pub priorities_of : List TypedTask → List ℕ
priorities_of tasks = map (λ t. t.priority) tasks ++ (0 ∷ [])

-- the numbers of the marks that are set, of which the first has this number
abbrev pub marked_from : ℕ → List Bool → List ℕ
marked_from k [] = []
marked_from k (true ∷ bs) = k ∷ marked_from (suc k) bs
marked_from k (false ∷ bs) = marked_from (suc k) bs

-- the temporaries of a graph that hold pointers
abbrev pub pointers_in : Edges → List ℕ
pointers_in graph = marked_from 0 (pointer_marks graph (temporaries_in graph))

-- the body of a graph and its configured graph, in a layout
pub record IsBodyIn (laid : LaidTree) (g : Graph) (c : ConfiguredGraph) (b : Body) : Type 0 where
  pub edges : b.edges ≡ g.edges.items
  pub nodes : b.nodes ≡ c.nodes.keys
  pub copies : b.copies ≡ c.copies.items
  pub live : AreLive g.edges.items g.nodes b.live
  pub pointers : b.pointers ≡ pointers_in g.edges.items
  pub heads : AreHeads g.edges.items b.heads
  pub written : AreAllWritten laid g.edges.items b.heads b.written

-- the body with this number in a program
pub record IsNumbered (p : ProgramBodies) (t : ℕ) (b : Body) : Type 0 where
  pub laid : b.laid ≡ p.laid
  pub number : b.task ≡ t
  pub priorities : b.priorities ≡ p.priorities
  pub marks : b.marks ≡ p.marks

-- the program of a layout, its graphs and their configured graphs, and thresholds
pub record IsProgramOf (layout : LaidTree) (graphs : List Graph) (configured : List ConfiguredGraph)
    (thresholds : List ℤ) (p : ProgramBodies) : Type 0 where
  pub laid : p.laid ≡ read_layout layout
  pub marks : p.marks ≡ thresholds
  pub tasks : p.tasks ≡ length layout.file.tasks
  pub priorities : p.priorities ≡ priorities_of layout.file.tasks
  pub count : length p.bodies ≡ length graphs
  pub numbered : (t : ℕ) → t < length p.bodies → IsNumbered p t (body_at p t)
  pub bodies : (t : ℕ) (g : Graph) (c : ConfiguredGraph) → t < length p.bodies
      → IsBodyIn layout (get_or graphs t g) (get_or configured t c) (body_at p t)

-- ## What a program keeps

-- the test of an operation, if it is one, is a comparison or has a label in the reach of strided sets
abbrev pub IsTested : Operation → Type 0
IsTested (Op.Assume test) = IsTestable test
IsTested _ = Unit {0}

-- A body of which the equations are solved: it begins at the entry of its graph, where nothing is live; its tests are
-- those that states can be filtered by; and each cell that it may reach is of an abstract cell that there is.
pub record IsBodyAt (p : ProgramBodies) (t : ℕ) (sorts : List Sort) : Type 0 where
  pub body : IsBody (body_at p t) sorts
  pub numbered : IsNumbered p t (body_at p t)
  pub entry : (let q = node_at (body_at p t) 0 in q.place ≡ 0)
  pub begins : live_at (body_at p t) 0 ≡ []
  pub tests : (k : ℕ) → k < length (body_at p t).edges
      → (let e = get_or (body_at p t).edges k no_edge in IsTested e.op)
  pub within : (scalar : Scalar) (spot : Spot) → IsSpotOf (spots_of p.laid t scalar) spot
      → spot.cell < length p.laid.abstract_cells

-- A program of which the equations are solved: its bodies are those of tasks and at most one more; each has a priority;
-- cells hold values of their types at first; and layouts are within their limits.
pub record IsProgram (p : ProgramBodies) : Type 0 where
  pub sorts : ℕ → List Sort
  pub each : (t : ℕ) → t < length p.bodies → IsBodyAt p t (sorts t)
  pub tasks : p.tasks ≤ length p.bodies
  pub section : length p.bodies ≤ suc p.tasks
  pub priorities : length p.priorities ≡ suc p.tasks
  pub initial : (cell : ℕ) → cell < length p.laid.initial
      → (let a = abstract_at p.laid (cell_at p.laid cell).abstract_cell in
      IsOfType p.laid a.scalar (initial_at p.laid cell))
  pub few_cells : length p.laid.cells ≤ 65536
  pub few : length p.laid.abstract_cells ≤ 65536
