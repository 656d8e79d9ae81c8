-- The worlds of runs, as the soundness theorem has them.
use Rattle.std.specs.Prelude.{◌≡◌, ℕ, zero, suc, ◌+◌, ◌*◌, ◌<◌, nat_lt, cond, Bool, false, length}
use Rattle.std.specs.Prelude.{get_or}
use Rattle.layout_laws.specs.tm_laid.Layouts.{LaidTree}
use Rattle.program_shape.specs.concrete_values.declared.values.Value.{Value}
use Rattle.program_shape.specs.concrete_steps.declared.worlds.Content.{Content}
use Rattle.program_shape.specs.concrete_steps.declared.worlds.Content.TheVariants.{Open, Is}
use Rattle.program_shape.specs.concrete_steps.declared.worlds.Status.{Status}
use Rattle.program_shape.specs.concrete_steps.declared.worlds.Status.TheVariants.{Waiting, Ready, Blocked, Done}
use Rattle.program_shape.specs.concrete_steps.NextAction.{next}
use Rattle.program_shape.specs.concrete_steps.Worlds.{World, standing, answers_of, holds, start}
use Rattle.program_shape.specs.concrete_steps.Moves.{content_of, status_of}
use Rattle.program_shape.specs.flow_graph.Graphs.{Edges}
use Rattle.program_shape.specs.mutex_configs.Sets.{has}
use Rattle.program_shape.specs.tm_soundness.Shape.{Shape, Content as AContent, given, open_cell}
use Rattle.program_shape.specs.tm_soundness.Tables.{Tables}
use Rattle.program_shape.specs.tm_soundness.GraphWorlds.{Status as AStatus, waiting, ready, blocked, done}
use Rattle.program_shape.specs.tm_soundness.Reports.{IsRaceListed}
use Rattle.program_shape.specs.tm_soundness.Section.{Section, alone}
use Rattle.program_shape.specs.tm_soundness.Worlds.{Source, World as AWorld}
use Rattle.program_shape.specs.tm_soundness.WholeWorlds.{WholeWorld, IsWholeReached}
use Rattle.program_shape.specs.tm_soundness.Numbered.{TaskOf}
use Rattle.program_equations.specs.Readings.{read_layout}
use Rattle.program_equations.specs.Programs.{priorities_of}
use Rattle.program_shape.specs.Shape.{Parts, number_of, shape_of, section_parts, section_of}
use Rattle.sound_runs.specs.Sources.{source_of}

-- ## Programs

module _ (laid : LaidTree) (graph : ℕ → Edges) where
  -- bodies of a file that run together, over these graphs
  abbrev pub parts_with : (tasks : ℕ) → (TaskOf tasks → ℕ) → (ℕ → ℕ) → Parts
  parts_with tasks number rank = record {
    laid = read_layout laid;
    tasks = tasks;
    number = number;
    rank = rank;
    graph = graph;
  }

  -- the tasks of a file
  abbrev pub task_parts : Parts
  task_parts = parts_with (length laid.file.tasks) (number_of (length laid.file.tasks))
      (λ t. get_or (priorities_of laid.file.tasks) t 0)

  -- the number of the initial section
  abbrev pub main_number : ℕ
  main_number = length laid.file.tasks

  -- and the initial section alone
  abbrev pub main_parts : Parts
  main_parts = section_parts task_parts main_number

  abbrev pub the_shape : Shape
  the_shape = shape_of task_parts

  abbrev pub the_section : Section the_shape
  the_section = section_of task_parts main_number

  abbrev pub the_source : Source the_shape
  the_source = source_of task_parts (next laid)

  abbrev pub section_source : Source (alone the_shape the_section)
  section_source = source_of main_parts (next laid)

-- ## Worlds

abbrev pub content_as : Content → AContent Value
content_as Open = open_cell
content_as (Is v) = given v

abbrev pub status_as : Status → AStatus ℕ
status_as Waiting = waiting
status_as Ready = ready
status_as (Blocked m) = blocked m
status_as Done = done

-- the number of a set of the mutexes below so many
abbrev pub set_below : ℕ → (ℕ → Bool) → ℕ
set_below zero f = 0
set_below (suc n) f = cond (f 0) 1 0 + 2 * set_below n (λ m. f (suc m))

-- there are at most sixteen
unfoldable pub set_of : (ℕ → Bool) → ℕ
set_of f = set_below 16 f

-- what a cell holds; nothing is known where there is no cell
abbrev pub contents_as : LaidTree → World → ℕ → AContent Value
contents_as laid w c = cond (nat_lt c (length laid.cells)) (content_as (content_of w c)) open_cell

abbrev pub held_as : World → ℕ → ℕ
held_as w i = set_of (λ m. holds m (standing w i))

module _ (laid : LaidTree) (graph : ℕ → Edges) where
  -- the world of tasks that hold these sets
  abbrev pub world_of : (tasks : ℕ) (number : TaskOf tasks → ℕ) (rank : ℕ → ℕ) → World → (TaskOf tasks → ℕ)
      → (let x = parts_with laid graph tasks number rank in AWorld (shape_of x) (source_of x (next laid)))
  world_of tasks number rank w held = record {
    content = contents_as laid w;
    answers = λ i. answers_of w (number i);
    held = held;
    status = λ i. status_as (status_of w (number i));
  }

  -- the world of the tasks
  abbrev pub tasks_world : World → AWorld (the_shape laid graph) (the_source laid graph)
  tasks_world w = world_of (length laid.file.tasks) (number_of (length laid.file.tasks))
      (λ t. get_or (priorities_of laid.file.tasks) t 0) w (λ i. held_as w (number_of (length laid.file.tasks) i))

  -- the world with the initial section, which holds this set
  abbrev pub whole_of : World → ℕ
      → WholeWorld (the_shape laid graph) (the_source laid graph) (the_section laid graph) (section_source laid graph)
  whole_of w held = record {
    content = contents_as laid w;
    main_answers = answers_of w (main_number laid graph);
    main_held = held;
    main_status = status_as (status_of w (main_number laid graph));
    answers = λ i. answers_of w (number_of (length laid.file.tasks) i);
    held = λ i. held_as w (number_of (length laid.file.tasks) i);
    status = λ i. status_as (status_of w (number_of (length laid.file.tasks) i));
  }

  -- what the cells hold at the start
  abbrev pub memory_of : ℕ → AContent Value
  memory_of = contents_as laid (start laid)

  -- A world of the theorem's stands for the world of a run. The section holds the same while it is not done, and
  -- nothing where it is done.
  pub record IsImage (w : World) : Type 0 where
    pub held : ℕ
    pub reached : IsWholeReached (the_shape laid graph) (the_source laid graph) (the_section laid graph)
        (section_source laid graph) memory_of (whole_of w held)
    pub same : (status_of w (main_number laid graph) ≡ Done → ⊥) → (m : ℕ) → m < 16
        → has held m ≡ holds m (standing w (main_number laid graph))
    pub free : status_of w (main_number laid graph) ≡ Done → (m : ℕ)
        → holds m (standing w (main_number laid graph)) ≡ false

-- ## What is listed

-- An edge of the section, or of a task, lists the class at the place, or two edges list a race there.
pub data IsListedAt (P : Shape) (T : Tables P) (X : Section P) (U : Tables (alone P X)) (at : P.Place)
    (class race : P.Class) : Type 0 where
  in_section : (e : X.Edge) → X.place e ≡ at → U.listed e class → IsListedAt P T X U at class race
  in_tasks : (e : P.Edge) → P.place e ≡ at → T.listed e class → IsListedAt P T X U at class race
  in_race : class ≡ race → (e f : P.Edge) → P.place e ≡ at → IsRaceListed P T e f → IsListedAt P T X U at class race

-- the same where there is no initial section
pub data IsListedBy (P : Shape) (T : Tables P) (at : P.Place) (class race : P.Class) : Type 0 where
  by_task : (e : P.Edge) → P.place e ≡ at → T.listed e class → IsListedBy P T at class race
  by_race : class ≡ race → (e f : P.Edge) → P.place e ≡ at → IsRaceListed P T e f → IsListedBy P T at class race
