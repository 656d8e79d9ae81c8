-- What is known of each world that a run reaches.
use Rattle.std.proofs.Common.{◌≡◌, sym, subst, ℕ, Some, None}
use Rattle.layout_laws.specs.tm_laid.Layouts.{LaidTree}
use Rattle.program_shape.specs.concrete_steps.Worlds.{World}
use Rattle.program_shape.specs.concrete_steps.Occurring.{IsReached}
use Rattle.program_shape.specs.flow_graph.Graphs.{Edges}
use Rattle.program_shape.specs.tm_soundness.Tables.{Tables}
use Rattle.program_shape.specs.tm_soundness.Section.{alone}
use Rattle.program_shape.proofs.low.tm_soundness.Known.{known as known_in_theory, whole_known}
use Rattle.program_shape.specs.Shape.{Parts}
use Rattle.sound_runs.specs.Images.{task_parts}
use Rattle.sound_runs.specs.Programs.{HasGraphs, IsPlainAnalysis, IsWholeAnalysis, first_temps, first_memory}
use Rattle.sound_runs.specs.Programs.{shape_in, section_in, source_in, section_source_in}
use Rattle.sound_runs.specs.Known.{tasks_in, whole_in, IsKnownIn, IsPlainlyKnownIn}
use Rattle.sound_runs.proofs.Imaged.{imaged}
use Rattle.sound_runs.proofs.WithoutSection.{plainly_imaged}
use Rattle.sound_runs.proofs.Listed.{tasks_of_count, each_task}
use Rattle.sound_runs.proofs.Programs.{tasks_lowered, section_lowered, owned_apart}

module _ (laid : LaidTree) (graph : ℕ → Edges) (has : HasGraphs laid graph) where
  abbrev x : Parts
  x = task_parts laid graph

  pub known : (f : ℕ) → laid.file.main ≡ Some f → (tables : Tables (shape_in laid x))
      (section_tables : Tables (alone (shape_in laid x) (section_in laid x)))
      → IsWholeAnalysis laid x tables section_tables → (w : World) → IsReached laid w
      → IsKnownIn laid x tables section_tables w
  known f is tables section_tables a w reached =
      let im = imaged laid graph has.file has.few f is w reached in
      record {
        held = im.held;
        same = im.same;
        known = whole_known (shape_in laid x) (section_in laid x) tables section_tables a.shape a.solution a.main_shape
            a.main_solution (owned_apart laid graph has) (first_memory laid) first_temps (λ i. first_temps)
            a.main_entered a.handover (section_source_in laid x) (section_lowered laid graph has f is)
            (source_in laid x) (tasks_lowered laid graph has) (tasks_of_count x.tasks) (each_task x (source_in laid x))
            (whole_in laid x w im.held) im.reached;
      }

  pub plainly_known : laid.file.main ≡ None → (tables : Tables (shape_in laid x)) → IsPlainAnalysis laid x tables
      → (w : World) → IsReached laid w → IsPlainlyKnownIn laid x tables w
  plainly_known is tables a w reached =
      known_in_theory (shape_in laid x) tables (source_in laid x) a.shape a.solution (first_memory laid)
      (λ i. first_temps) a.entered (tasks_lowered laid graph has) (tasks_of_count x.tasks)
      (each_task x (source_in laid x)) (tasks_in laid x w) (plainly_imaged laid graph has.file has.few is w reached)

-- for parts that are those of the file
module _ (laid : LaidTree) (graph : ℕ → Edges) (has : HasGraphs laid graph) (x : Parts)
    (same : x ≡ task_parts laid graph) where
  pub known_in : (f : ℕ) → laid.file.main ≡ Some f → (tables : Tables (shape_in laid x))
      (section_tables : Tables (alone (shape_in laid x) (section_in laid x)))
      → IsWholeAnalysis laid x tables section_tables → (w : World) → IsReached laid w
      → IsKnownIn laid x tables section_tables w
  known_in f is =
      subst (λ (y : Parts). (tables : Tables (shape_in laid y))
      (section_tables : Tables (alone (shape_in laid y) (section_in laid y)))
      → IsWholeAnalysis laid y tables section_tables → (w : World) → IsReached laid w
      → IsKnownIn laid y tables section_tables w)
      (sym same) (known laid graph has f is)

  pub plainly_known_in : laid.file.main ≡ None → (tables : Tables (shape_in laid x)) → IsPlainAnalysis laid x tables
      → (w : World) → IsReached laid w → IsPlainlyKnownIn laid x tables w
  plainly_known_in is =
      subst (λ (y : Parts). (tables : Tables (shape_in laid y)) → IsPlainAnalysis laid y tables → (w : World)
      → IsReached laid w → IsPlainlyKnownIn laid y tables w)
      (sym same) (plainly_known laid graph has is)
