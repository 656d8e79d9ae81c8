-- The equations of a body as the code holds them.
use Rattle.std.specs.Prelude.{◌≡◌, ℕ, ◌<◌, ◌≤◌, ℤ, List, length, map, get_or, Option, IfSome}
use Rattle.std.specs.FinMap.{get}
use Rattle.tm_laid.specs.tm_typed.TypedFiles.{typed_file_tree}
use Rattle.tm_laid.specs.declared.layouts.Laid.{Laid}
use Rattle.tm_laid.specs.Layouts.{LaidTree, laid_tree}
use Rattle.tm_laid.specs.Layable.{IsLayable}
use Rattle.flow_graph.specs.declared.graphs.Graph.{Graph}
use Rattle.mutex_configs.specs.declared.nodes.ConfiguredGraph.{ConfiguredGraph}
use Rattle.interfere_set.specs.Stores.{Interferences}
use Rattle.transfer_mem.specs.edge_actions.transfer_rows.StateForms.{State}
use Rattle.temporary_types.specs.Sorts.{Sort}
use Rattle.task_equations.specs.temporary_extents.Extents.{extents_in}
use Rattle.task_equations.specs.state_fits.Fits.{FitsStore, FitsTemp}
use Rattle.task_equations.specs.state_fits.Kinds.{InExtents}
use Rattle.table_covers.specs.Systems.{System}
use Rattle.task_equations.specs.Bodies.{Body, no_edge, copy_at, node_at, live_at}
use Rattle.task_equations.specs.Equations.{equations_of, link_of, added_along}
use Rattle.task_equations.specs.Premises.{IsBody}
use Rattle.program_equations.specs.Readings.{read_layout}
use Rattle.program_equations.specs.Programs.{IsTested}
use Rattle.program_equations.specs.Systems.{FitsBody}
use Rattle.body_systems.specs.Facts.{Facts, pointers_of}

-- A body by its number in a layout, with its graph, its configured graph and their facts; the priorities by which it
-- hears other tasks, the thresholds, the state in which it begins, if it does, and the store that it reads.
pub record SystemOf : Type 0 where
  pub laid : Laid
  pub task : ℕ
  pub priorities : List ℕ
  pub marks : List ℤ
  pub graph : Graph
  pub configured : ConfiguredGraph
  pub facts : Facts
  pub entry : Option State
  pub store : Interferences

abbrev pub system_with : Laid → ℕ → List ℕ → List ℤ → Graph → ConfiguredGraph → Facts → Option State → Interferences
    → SystemOf
system_with laid task priorities marks g c facts entry store = record {
  laid = laid;
  task = task;
  priorities = priorities;
  marks = marks;
  graph = g;
  configured = c;
  facts = facts;
  entry = entry;
  store = store;
}

-- the body of a graph and its configured graph, with these facts
abbrev pub body_with : LaidTree → ℕ → List ℕ → List ℤ → Graph → ConfiguredGraph → Facts → Body
body_with laid task priorities marks g c f = record {
  laid = read_layout laid;
  task = task;
  priorities = priorities;
  edges = g.edges.items;
  nodes = c.nodes.keys;
  copies = c.copies.items;
  marks = marks;
  live = f.live;
  pointers = pointers_of f;
  heads = f.heads;
  written = f.written;
}

abbrev pub body_of : SystemOf → Body
body_of v = body_with (laid_tree v.laid) v.task v.priorities v.marks v.graph v.configured v.facts

-- each temporary that is live at the place of a node has a value within its extent in the state, and no other has any;
-- what the state says of cells does not count
abbrev pub FitsTemps : Body → ℕ → State → Type 0
FitsTemps b n s = (t : ℕ)
    → (let q = node_at b n in FitsTemp (InExtents b.laid (extents_in b.edges)) (live_at b q.place) t (get s.temps t))

-- the equations of the body
abbrev pub system_of : SystemOf → System State
system_of v = equations_of (body_of v) v.entry v.store

-- what a copy of an edge contributes, by its number
abbrev pub contributed_by : SystemOf → ℕ → State → Interferences
contributed_by v k s = let b = body_of v in added_along b (copy_at b k) s

-- What the equations of a body keep: it is a body of some sorts, whose tests states can be filtered by; the store and
-- the state at the entry fit; the body and all that write to the store have priorities; the file can be laid out,
-- within the limit of cells; and the links are those of the copies.
pub record IsSystemOf (v : SystemOf) : Type 0 where
  pub sorts : List Sort
  pub body : IsBody (body_of v) sorts
  pub tests : (k : ℕ) → k < length v.graph.edges.items
      → (let e = get_or v.graph.edges.items k no_edge in IsTested e.op)
  pub tasks : ℕ
  pub store : FitsStore (read_layout (laid_tree v.laid)) tasks v.store
  pub writers : tasks ≤ length v.priorities
  pub task : v.task < length v.priorities
  pub entry : IfSome v.entry (FitsBody (body_of v) 0)
  pub layable : IsLayable (typed_file_tree v.laid.file) v.laid.file.order.items
  pub few : length v.laid.cells.items ≤ 65536
  pub links : v.facts.links ≡ map link_of v.configured.copies.items
