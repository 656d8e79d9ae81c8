-- What is computed once of a program, and the program with it.
use Rattle.std.specs.Prelude.{◌≡◌, ℕ, ◌<◌, List, [], ◌∷◌, length, get_or}
use Rattle.mutex_configs.specs.tm_laid.Layouts.{laid_tree}
use Rattle.mutex_configs.specs.flow_graph.declared.graphs.Graph.{Graph}
use Rattle.mutex_configs.specs.declared.nodes.ConfiguredGraph.{ConfiguredGraph}
use Rattle.mutex_configs.specs.declared.programs.Program.{Program}
use Rattle.entry_states.specs.program_equations.Programs.{ProgramBodies, priorities_of}
use Rattle.entry_states.specs.body_systems.Facts.{Facts, AreFactsOf, pointers_of}
use Rattle.program_systems.specs.ReadPrograms.{ReadBody, ReadProgram, read_of, program_of}

-- the priorities of all bodies, and what is computed once of each
pub record AllFacts : Type 0 where
  pub priorities : List ℕ
  pub bodies : List Facts

-- the bodies of graphs, configured graphs and facts
abbrev pub read_body : Graph → ConfiguredGraph → Facts → ReadBody
read_body g c f = record {
  edges = g.edges.items;
  nodes = c.nodes.keys;
  copies = c.copies.items;
  live = f.live;
  pointers = pointers_of f;
  heads = f.heads;
  written = f.written;
}

abbrev pub read_bodies : List Graph → List ConfiguredGraph → List Facts → List ReadBody
read_bodies [] cs fs = []
read_bodies (g ∷ gs) [] fs = []
read_bodies (g ∷ gs) (c ∷ cs) [] = []
read_bodies (g ∷ gs) (c ∷ cs) (f ∷ fs) = read_body g c f ∷ read_bodies gs cs fs

-- what the equations read of a program with its facts
abbrev pub read_with : Program → AllFacts → ReadProgram
read_with program facts = record {
  laid = read_of (laid_tree program.laid);
  marks = program.marks;
  tasks = length program.laid.file.tasks.items;
  priorities = facts.priorities;
  bodies = read_bodies program.graphs.graphs.items program.configured.items facts.bodies;
}

-- the program as its bodies
abbrev pub program_with : Program → AllFacts → ProgramBodies
program_with program facts = program_of (read_with program facts)

-- they are those of the program
pub record AreProgramFacts (program : Program) (facts : AllFacts) : Type 0 where
  pub priorities : facts.priorities ≡ priorities_of program.laid.file.tasks.items
  pub count : length facts.bodies ≡ length program.graphs.graphs.items
  pub each : (t : ℕ) (g : Graph) (c : ConfiguredGraph) (f : Facts) → t < length facts.bodies
      → AreFactsOf (laid_tree program.laid) (get_or program.graphs.graphs.items t g)
      (get_or program.configured.items t c) (get_or facts.bodies t f)
