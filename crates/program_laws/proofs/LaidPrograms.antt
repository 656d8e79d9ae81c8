-- The program of a file that is typed and laid out keeps what the equations ask.
use Rattle.std.specs.Prelude.{◌≡◌, ℕ, suc, ◌<◌, ◌≤◌, ℤ, List, [], ◌∷◌, length, map, Option, Some, None, Ok}
use Rattle.std.proofs.Common.{sym, ap, subst, ◌∙◌, arith}
use Rattle.std.proofs.lemmas.List.{length-append, length-map}
use Rattle.layout_laws.specs.tm_typed.declared.files.TypedTask.{TypedTask}
use Rattle.layout_laws.specs.tm_typed.Files.{TypedFileTree}
use Rattle.layout_laws.specs.tm_laid.Paths.{listed}
use Rattle.layout_laws.specs.tm_laid.declared.scales.Scale.{Scale}
use Rattle.layout_laws.specs.tm_laid.Layouts.{LaidTree, layout_of, cell_at, abstract_at}
use Rattle.graph_builder.specs.flow_graph.declared.graphs.Graph.{Graph}
use Rattle.graph_builder.specs.Lowered.{AreGraphs}
use Rattle.operation_laws.specs.mutex_configs.declared.nodes.ConfiguredGraph.{ConfiguredGraph}
use Rattle.operation_laws.specs.mutex_configs.Programs.{IsAnswer}
use Rattle.thresholds.specs.Thresholds.{Numbers, AreThresholds}
use Rattle.program_systems.specs.typed_values.Types.{IsOfType}
use Rattle.operation_laws.specs.lowering_laws.LaidFiles.{IsLaidFile}
use Rattle.program_systems.specs.program_equations.Readings.{read_layout}
use Rattle.program_systems.specs.program_equations.Entries.{initial_at}
use Rattle.program_systems.specs.program_equations.Programs.{ProgramBodies, priorities_of, IsProgramOf, IsProgram}
use Rattle.program_systems.specs.program_equations.laws.ReadAlike.{type_read, initial_read}
use Rattle.program_laws.proofs.ThresholdEnds.{have_ends}
use Rattle.program_laws.proofs.LaidCells.{limited, of_layout, holds_at_first}
use Rattle.program_laws.proofs.LaidBodies.{sorts_at, body_kept}

-- ## How many bodies there are

one_listed : (main : Option ℕ) → length (listed main) ≤ 1
one_listed None = omega arith
one_listed (Some f) = omega arith

-- a body for each task, and at most one more
abbrev pub HasBodies : LaidTree → Type 0
HasBodies l = (length l.file.tasks ≤ length l.bodies) × (length l.bodies ≤ suc (length l.file.tasks))

file_bodies : (file : TypedFileTree) → HasBodies (layout_of file)
unfolding layout_of
file_bodies file =
    let functions : List ℕ = map (λ (t : TypedTask). t.function) file.tasks in
    let append = length-append functions (listed file.main) in
    let many = length-map file.tasks (λ (t : TypedTask). t.function) in
    let one = one_listed file.main in
    (omega (arith, append, many), omega (arith, append, many, one))

pub bodies_counted : (laid : LaidTree) → IsLaidFile laid → HasBodies laid
bodies_counted laid is = of_layout laid is HasBodies (file_bodies is.file)

one_more : (tasks : List TypedTask) → length (priorities_of tasks) ≡ suc (length tasks)
one_more tasks =
    let append = length-append (map (λ (t : TypedTask). t.priority) tasks) (0 ∷ []) in
    let many = length-map tasks (λ (t : TypedTask). t.priority) in
    omega (arith, append, many)

-- ## What cells hold at first

-- cells hold values of their types at first
abbrev pub HoldsAtFirst : LaidTree → Type 0
HoldsAtFirst l = (cell : ℕ) → cell < length l.initial
    → (let a = abstract_at l (cell_at l cell).abstract_cell in IsOfType l a.scalar (initial_at l cell))

-- so they do in what is read of a layout
pub held_read : (laid : LaidTree) → IsLaidFile laid → HoldsAtFirst (read_layout laid)
held_read laid is cell lt =
    let a = abstract_at laid (cell_at laid cell).abstract_cell in
    subst (λ v. IsOfType (read_layout laid) a.scalar v) (sym (initial_read laid cell))
    (type_read laid a.scalar (initial_at laid cell) (holds_at_first laid is cell lt))

-- ## Programs

module _ (laid : LaidTree) (is : IsLaidFile laid) (graphs : List Graph) (configured : List ConfiguredGraph)
    (scale : Scale) (are : AreGraphs scale laid graphs) (answer : IsAnswer scale laid graphs (Ok configured))
    (numbers : Numbers) (marks : List ℤ) (thresholds : AreThresholds numbers marks) (p : ProgramBodies)
    (of : IsProgramOf laid graphs configured marks p) where
  pub program_kept : IsProgram p
  program_kept =
      let bodies : HasBodies laid = bodies_counted laid is in
      let tasks_are = of.tasks in
      let count = of.count in
      let graph_count = are.count in
      let most = bodies.1 in
      let least = bodies.0 in
      let priorities = of.priorities in
      let more = one_more laid.file.tasks in
      let limits = limited laid is in
      record {
        sorts = sorts_at laid is;
        each = λ t lt. body_kept laid is graphs configured marks scale are answer (have_ends numbers marks thresholds)
            p of t lt;
        tasks = omega (arith, tasks_are, count, graph_count, least);
        section = omega (arith, tasks_are, count, graph_count, most);
        priorities = ap length priorities ∙ more ∙ ap suc (sym tasks_are);
        initial = subst HoldsAtFirst (sym of.laid) (held_read laid is);
        few_cells = subst (λ (l : LaidTree). length l.cells ≤ 65536) (sym of.laid) limits.cells;
        few = subst (λ (l : LaidTree). length l.abstract_cells ≤ 65536) (sym of.laid) limits.abstract_cells;
      }
