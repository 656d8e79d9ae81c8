-- What is asked of the graphs of a file, and what the tables of an analysis owe.
use Rattle.std.specs.Prelude.{◌≡◌, ℕ, ◌<◌, ◌≤◌, ◌^◌, length}
use Rattle.layout_laws.specs.tm_laid.Layouts.{LaidTree}
use Rattle.program_shape.specs.concrete_values.declared.values.Value.{Value}
use Rattle.program_shape.specs.concrete_steps.NextAction.{next}
use Rattle.program_shape.specs.concrete_steps.Worlds.{start}
use Rattle.program_shape.specs.flow_graph.Graphs.{Edges}
use Rattle.program_shape.specs.flow_graph.Operations.{Temps}
use Rattle.program_shape.specs.flow_graph.Runs.{at_entry}
use Rattle.lowering_laws.specs.lowering.Built.{graph_of}
use Rattle.lowering_laws.specs.LaidFiles.{IsLaidFile}
use Rattle.program_shape.specs.tm_soundness.Shape.{Shape, Content as AContent}
use Rattle.program_shape.specs.tm_soundness.Tables.{Tables}
use Rattle.program_shape.specs.tm_soundness.Shaped.{IsShaped}
use Rattle.program_shape.specs.tm_soundness.Covers.{IsSolution, IsEntered}
use Rattle.program_shape.specs.tm_soundness.Section.{Section, alone, IsHandover}
use Rattle.program_shape.specs.tm_soundness.Worlds.{Source}
use Rattle.program_equations.specs.Readings.{read_layout}
use Rattle.program_shape.specs.Shape.{Parts, shape_of, section_parts, section_of}
use Rattle.sound_runs.specs.Sources.{source_of, KeepsAddresses}
use Rattle.sound_runs.specs.Images.{contents_as}

-- A typed file that is laid out, with the graphs of its bodies: numbers of 32 bits are enough for its objects, and
-- parts and elements are taken within their objects.
pub record HasGraphs (laid : LaidTree) (graph : ℕ → Edges) : Type 0 where
  pub file : IsLaidFile laid
  pub few : length laid.objects ≤ 2 ^ 32
  pub graphs : (body : ℕ) → body < length laid.bodies → graph body ≡ graph_of laid body
  pub addresses : (body : ℕ) → body < length laid.bodies → KeepsAddresses (read_layout laid) (graph_of laid body)

-- no temporary holds anything at an entry
abbrev pub first_temps : Temps
first_temps = at_entry.temps

-- what cells hold at the start
abbrev pub first_memory : LaidTree → ℕ → AContent Value
first_memory laid = contents_as laid (start laid)

module _ (laid : LaidTree) (x : Parts) where
  abbrev pub shape_in : Shape
  shape_in = shape_of x

  -- the initial section has the number of tasks
  abbrev pub section_in : Section shape_in
  section_in = section_of x x.tasks

  abbrev pub source_in : Source shape_in
  source_in = source_of x (next laid)

  abbrev pub section_source_in : Source (alone shape_in section_in)
  section_source_in = source_of (section_parts x x.tasks) (next laid)

  -- the tables of the tasks and those of the initial section cover what both can do, from what cells hold at the start
  pub record IsWholeAnalysis (T : Tables shape_in) (U : Tables (alone shape_in section_in)) : Type 0 where
    pub shape : IsShaped shape_in
    pub solution : IsSolution shape_in T
    pub main_shape : IsShaped (alone shape_in section_in)
    pub main_solution : IsSolution (alone shape_in section_in) U
    pub main_entered : IsEntered (alone shape_in section_in) U (first_memory laid) (λ _. first_temps)
    pub handover : IsHandover shape_in section_in T U (first_memory laid) first_temps (λ i. first_temps)

  -- the same where there is no initial section
  pub record IsPlainAnalysis (T : Tables shape_in) : Type 0 where
    pub shape : IsShaped shape_in
    pub solution : IsSolution shape_in T
    pub entered : IsEntered shape_in T (first_memory laid) (λ i. first_temps)
