-- A program as far as its equations read it, as plain data without trees.
use Rattle.std.specs.Prelude.{ℕ, suc, ℤ, List, [], ◌∷◌, None}
use Rattle.tm_typed.specs.declared.types.TypeEntry.{TypeEntry}
use Rattle.tm_typed.specs.declared.files.MutexEntry.{MutexEntry}
use Rattle.tm_typed.specs.Scopes.{Structure}
use Rattle.mutex_configs.specs.tm_laid.declared.paths.CallPath.{CallPath}
use Rattle.mutex_configs.specs.tm_laid.declared.objects.LaidObject.{LaidObject}
use Rattle.mutex_configs.specs.tm_laid.declared.objects.Initial.{Initial}
use Rattle.mutex_configs.specs.tm_laid.declared.cells.LaidCell.{LaidCell}
use Rattle.mutex_configs.specs.tm_laid.declared.cells.AbstractCell.{AbstractCell}
use Rattle.mutex_configs.specs.tm_laid.Layouts.{LaidTree}
use Rattle.mutex_configs.specs.flow_graph.Graphs.{Edges}
use Rattle.mutex_configs.specs.graph_facts.declared.regions.Head.{Head}
use Rattle.mutex_configs.specs.declared.nodes.ConfiguredNode.{ConfiguredNode}
use Rattle.mutex_configs.specs.declared.nodes.EdgeCopy.{EdgeCopy}
use Rattle.entry_states.specs.task_equations.Bodies.{Body}
use Rattle.entry_states.specs.program_equations.Programs.{ProgramBodies}

-- ## Layouts

-- of a layout what equations read
pub record ReadLayout : Type 0 where
  pub types : List TypeEntry
  pub structs : List Structure
  pub mutexes : List MutexEntry
  pub paths : List CallPath
  pub objects : List LaidObject
  pub cells : List LaidCell
  pub abstract_cells : List AbstractCell
  pub initial : List Initial

abbrev pub read_of : LaidTree → ReadLayout
read_of laid = record {
  types = laid.file.types;
  structs = laid.file.structs;
  mutexes = laid.file.mutexes;
  paths = laid.paths;
  objects = laid.objects;
  cells = laid.cells;
  abstract_cells = laid.abstract_cells;
  initial = laid.initial;
}

-- a layout that has this and nothing else
abbrev pub layout_from : ReadLayout → LaidTree
layout_from r = record {
  file = record {
    types = r.types;
    structs = r.structs;
    statics = [];
    functions = [];
    calls = [];
    tasks = [];
    mutexes = r.mutexes;
    main = None;
    lengths = [];
    constants = [];
    labels = [];
    sizes = [];
  };
  bodies = [];
  first_paths = [];
  paths = r.paths;
  callees = [];
  first_objects = [];
  statics = [];
  objects = r.objects;
  cells = r.cells;
  abstract_cells = r.abstract_cells;
  initial = r.initial;
}

-- ## Programs

-- of a body what is its own
pub record ReadBody : Type 0 where
  pub edges : Edges
  pub nodes : List ConfiguredNode
  pub copies : List EdgeCopy
  pub live : List (List ℕ)
  pub pointers : List ℕ
  pub heads : List Head
  pub written : List (List ℕ)

-- the layout, the thresholds, how many tasks there are, the priorities, and the bodies
pub record ReadProgram : Type 0 where
  pub laid : ReadLayout
  pub marks : List ℤ
  pub tasks : ℕ
  pub priorities : List ℕ
  pub bodies : List ReadBody

-- the body with this number
abbrev pub body_from : ReadProgram → ℕ → ReadBody → Body
body_from p k b = record {
  laid = layout_from p.laid;
  task = k;
  priorities = p.priorities;
  edges = b.edges;
  nodes = b.nodes;
  copies = b.copies;
  marks = p.marks;
  live = b.live;
  pointers = b.pointers;
  heads = b.heads;
  written = b.written;
}

-- bodies, of which the first has this number
abbrev pub bodies_from : ReadProgram → ℕ → List ReadBody → List Body
bodies_from p k [] = []
bodies_from p k (b ∷ bs) = body_from p k b ∷ bodies_from p (suc k) bs

-- the program of this
abbrev pub program_of : ReadProgram → ProgramBodies
program_of p = record {
  laid = layout_from p.laid;
  marks = p.marks;
  tasks = p.tasks;
  priorities = p.priorities;
  bodies = bodies_from p 0 p.bodies;
}
