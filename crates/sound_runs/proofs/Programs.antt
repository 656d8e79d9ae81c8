-- The graphs of a file are lowered as the soundness theorem wants, and what occurs in its runs is listed by every
-- analysis.
use Rattle.std.proofs.Common.{◌≡◌, sym, ap, subst, ◌∙◌, ℕ, ◌<◌, length, Some}
use Rattle.std.proofs.Common.{None, arith}
use Rattle.layout_laws.specs.tm_cint.declared.Class.{Class}
use Rattle.layout_laws.specs.tm_cint.declared.Class.TheVariants as Classes
use Rattle.layout_laws.specs.tm_terms.declared.places.Place.{Place}
use Rattle.layout_laws.specs.tm_laid.Layouts.{LaidTree, path_at}
use Rattle.layout_laws.specs.tm_laid.Paths.{listed}
use Rattle.program_shape.specs.concrete_steps.NextAction.{next}
use Rattle.program_shape.specs.concrete_steps.Occurring.{Occurs}
use Rattle.program_shape.specs.flow_graph.Graphs.{Edges}
use Rattle.program_shape.specs.tm_soundness.Tables.{Tables}
use Rattle.program_shape.specs.tm_soundness.Section.{alone}
use Rattle.program_shape.specs.tm_soundness.Worlds.{IsLowered}
use Rattle.program_shape.specs.tm_soundness.Numbered.{TaskOf}
use Rattle.program_equations.specs.Readings.{read_layout}
use Rattle.program_shape.specs.Shape.{Parts, number_of, IsOwned}
use Rattle.program_shape.proofs.TaskNumbers.{number_below}
use Rattle.sound_runs.specs.Sources.{IsRunning}
use Rattle.sound_runs.specs.Images.{task_parts, main_parts, IsListedAt, IsListedBy}
use Rattle.sound_runs.specs.Programs.{HasGraphs, first_temps, shape_in, section_in, source_in}
use Rattle.sound_runs.specs.Programs.{section_source_in, IsWholeAnalysis, IsPlainAnalysis}
use Rattle.sound_runs.proofs.Lowered.{lowered}
use Rattle.sound_runs.proofs.Layouts.{read_lays_cells, is_running}
use Rattle.sound_runs.proofs.Starts.{bodies_counted}
use Rattle.sound_runs.proofs.Listed.{occurs_is_listed}
use Rattle.sound_runs.proofs.WithoutSection.{plainly_listed}

module _ (laid : LaidTree) (graph : ℕ → Edges) (has : HasGraphs laid graph) where
  abbrev T : ℕ
  T = length laid.file.tasks

  abbrev tasks : Parts
  tasks = task_parts laid graph

  running : (body : ℕ) → body < length laid.bodies → IsRunning (read_layout laid) (graph body) body (next laid body)
  running body lt =
      subst (λ g. IsRunning (read_layout laid) g body (next laid body)) (sym (has.graphs body lt))
      (is_running laid has.file has.few body lt (has.addresses body lt))

  task_is : (i : TaskOf T) → number_of T i < length laid.bodies
  task_is i = let a = number_below T i in let b = bodies_counted laid has.file in omega (arith, a, b)

  main_is_body : (f : ℕ) → laid.file.main ≡ Some f → T < length laid.bodies
  main_is_body f is =
      let a = bodies_counted laid has.file in
      let b : length (listed laid.file.main) ≡ 1 = ap (λ o. length (listed o)) is in
      omega (arith, a, b)

  pub tasks_lowered : IsLowered (shape_in laid tasks) (source_in laid tasks) (λ i. first_temps)
  tasks_lowered =
      lowered tasks (next laid) (read_lays_cells laid has.file) (λ i. running (number_of T i) (task_is i))

  pub section_lowered : (f : ℕ) → laid.file.main ≡ Some f
      → IsLowered (alone (shape_in laid tasks) (section_in laid tasks)) (section_source_in laid tasks) (λ _. first_temps)
  section_lowered f is =
      lowered (main_parts laid graph) (next laid) (read_lays_cells laid has.file) (λ i. running T (main_is_body f is))

  -- a local cell of the section is no task's
  pub owned_apart : (y : ℕ) (i : TaskOf T) → IsOwned (read_layout laid) y T → IsOwned (read_layout laid) y (number_of T i) → ⊥
  owned_apart y i a b =
      let below = number_below T i in
      let same : Some a.path ≡ Some b.path = sym a.owner ∙ b.owner in
      let path : a.path ≡ b.path = cc in
      let clash : T ≡ number_of T i = sym a.own ∙ (ap (λ z. (path_at laid z).body) path ∙ b.own) in
      omega (arith, below, clash)

  -- ## Parts that are those of the file

  module _ (x : Parts) (same : x ≡ tasks) where
    pub lowered_in : IsLowered (shape_in laid x) (source_in laid x) (λ i. first_temps)
    lowered_in =
        subst (λ (y : Parts). IsLowered (shape_in laid y) (source_in laid y) (λ i. first_temps)) (sym same) tasks_lowered

    -- every error of a run is listed
    pub listed_in : (f : ℕ) → laid.file.main ≡ Some f → (tables : Tables (shape_in laid x))
        (section_tables : Tables (alone (shape_in laid x) (section_in laid x)))
        → IsWholeAnalysis laid x tables section_tables → (class : Class) (p : Place) → Occurs laid class p
        → IsListedAt (shape_in laid x) tables (section_in laid x) section_tables (Some p) class Classes.Race
    listed_in f is =
        subst (λ (y : Parts). (tables : Tables (shape_in laid y))
        (section_tables : Tables (alone (shape_in laid y) (section_in laid y)))
        → IsWholeAnalysis laid y tables section_tables → (class : Class) (p : Place) → Occurs laid class p
        → IsListedAt (shape_in laid y) tables (section_in laid y) section_tables (Some p) class Classes.Race)
        (sym same)
        (λ tables section_tables a.
        occurs_is_listed laid graph has.file has.few f is tables section_tables first_temps (λ i. first_temps)
        (record {
          shape = a.shape;
          solution = a.solution;
          lowered = tasks_lowered;
          main = record {
            shape = a.main_shape;
            solution = a.main_solution;
            entered = a.main_entered;
            lowered = section_lowered f is;
          };
          handover = a.handover;
          apart = owned_apart;
        }))

    pub plainly_listed_in : laid.file.main ≡ None → (tables : Tables (shape_in laid x)) → IsPlainAnalysis laid x tables
        → (class : Class) (p : Place) → Occurs laid class p
        → IsListedBy (shape_in laid x) tables (Some p) class Classes.Race
    plainly_listed_in is =
        subst (λ (y : Parts). (tables : Tables (shape_in laid y)) → IsPlainAnalysis laid y tables → (class : Class)
        (p : Place) → Occurs laid class p → IsListedBy (shape_in laid y) tables (Some p) class Classes.Race)
        (sym same)
        (λ tables a. plainly_listed laid graph has.file has.few is tables (λ i. first_temps)
        (record { shape = a.shape; solution = a.solution; entered = a.entered; lowered = tasks_lowered }))
