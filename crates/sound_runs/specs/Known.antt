-- What is known of the worlds that runs reach.
use Rattle.std.specs.Prelude.{◌≡◌, ℕ, ◌<◌}
use Rattle.layout_laws.specs.tm_laid.Layouts.{LaidTree}
use Rattle.program_shape.specs.concrete_steps.declared.worlds.Status.TheVariants.{Done}
use Rattle.program_shape.specs.concrete_steps.Worlds.{World, standing, answers_of, holds}
use Rattle.program_shape.specs.concrete_steps.Moves.{status_of}
use Rattle.program_shape.specs.mutex_configs.Sets.{has}
use Rattle.program_shape.specs.tm_soundness.Tables.{Tables}
use Rattle.program_shape.specs.tm_soundness.Section.{alone}
use Rattle.program_shape.specs.tm_soundness.Worlds.{World as AWorld}
use Rattle.program_shape.specs.tm_soundness.WholeWorlds.{WholeWorld}
use Rattle.program_shape.specs.tm_soundness.Known.{IsKnown, IsWholeKnown}
use Rattle.program_shape.specs.Shape.{Parts}
use Rattle.sound_runs.specs.Images.{contents_as, status_as, held_as}
use Rattle.sound_runs.specs.Programs.{first_temps, first_memory, shape_in, section_in, source_in, section_source_in}

module _ (laid : LaidTree) (x : Parts) where
  -- the world of a run as the theorem has it, where only tasks run
  abbrev pub tasks_in : World → AWorld (shape_in laid x) (source_in laid x)
  tasks_in w = record {
    content = contents_as laid w;
    answers = λ i. answers_of w (x.number i);
    held = λ i. held_as w (x.number i);
    status = λ i. status_as (status_of w (x.number i));
  }

  -- and with the initial section, which holds this set
  abbrev pub whole_in : World → ℕ
      → WholeWorld (shape_in laid x) (source_in laid x) (section_in laid x) (section_source_in laid x)
  whole_in w held = record {
    content = contents_as laid w;
    main_answers = answers_of w x.tasks;
    main_held = held;
    main_status = status_as (status_of w x.tasks);
    answers = λ i. answers_of w (x.number i);
    held = λ i. held_as w (x.number i);
    status = λ i. status_as (status_of w (x.number i));
  }

  -- what is known of a world where only tasks run
  abbrev pub IsPlainlyKnownIn : Tables (shape_in laid x) → World → Type 0
  IsPlainlyKnownIn T w =
      IsKnown (shape_in laid x) T (source_in laid x) (first_memory laid) (λ i. first_temps) (tasks_in w)

  -- and of one with an initial section; what that holds is told while it is not done
  pub record IsKnownIn (T : Tables (shape_in laid x)) (U : Tables (alone (shape_in laid x) (section_in laid x)))
      (w : World) : Type 0 where
    pub held : ℕ
    pub same : (status_of w x.tasks ≡ Done → ⊥) → (m : ℕ) → m < 16 → has held m ≡ holds m (standing w x.tasks)
    pub known : IsWholeKnown (shape_in laid x) T (source_in laid x) (section_in laid x) U (section_source_in laid x)
        (first_memory laid) first_temps (λ i. first_temps) (whole_in w held)
