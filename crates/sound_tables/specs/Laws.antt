-- What is said of the tables of an analysis.
use Rattle.std.specs.Prelude.{◌≡◌, ℕ, ◌<◌, List, length, Option, Some}
use Rattle.program_shape.specs.tm_cint.declared.Class.{Class}
use Rattle.program_shape.specs.tm_cint.declared.Class.TheVariants.{Race}
use Rattle.program_shape.specs.tm_terms.declared.places.Place.{Place}
use Rattle.program_reports.specs.table_covers.Solutions.{NodeTable}
use Rattle.program_reports.specs.Reports.{IsAlarm}
use Rattle.program_shape.specs.tm_soundness.Reports.{IsRaceListed}
use Rattle.program_reports.specs.interfere_set.Stores.{Interferences}
use Rattle.program_reports.specs.transfer_rows.StateForms.{State}
use Rattle.program_reports.specs.program_equations.Programs.{ProgramBodies, HasSection, IsProgram}
use Rattle.program_reports.specs.program_equations.Solutions.{tables_of as lists_of, IsPair}
use Rattle.program_shape.specs.tm_soundness.Shaped.{IsShaped}
use Rattle.program_shape.specs.tm_soundness.Covers.{IsSolution, IsEntered}
use Rattle.program_shape.specs.tm_soundness.Section.{IsHandover}
use Rattle.program_shape.specs.tm_soundness.Shape.{Content}
use Rattle.program_shape.specs.tm_soundness.Numbered.{TaskOf}
use Rattle.program_shape.specs.concrete_values.declared.values.Value.{Value}
use Rattle.program_shape.specs.concrete_values.Values.{nothing}
use Rattle.program_shape.specs.flow_graph.Operations.{Temps}
use Rattle.program_shape.specs.Shape.{Copy, shape_of, section_of, place_at}
use Rattle.sound_tables.specs.Programs.{parts_of, section_alone}
use Rattle.sound_tables.specs.Premises.{LaysCells, IsGraphOf, AreRegular}
use Rattle.sound_tables.specs.Starting.{IsStartMemory}
use Rattle.sound_tables.specs.Meanings.{HaveMeanings}
use Rattle.sound_tables.specs.Memberships.{tables_of, section_tables, nothing_of}

-- what the layout and the graphs of a program keep, and that its operations do what the rows say
pub record IsFounded (p : ProgramBodies) (is : IsProgram p) : Type 0 where
  pub cells : LaysCells p.laid
  pub graphs : (t : ℕ) → t < length p.bodies → IsGraphOf p t
  pub means : (t : ℕ) → t < length p.bodies → HaveMeanings p t (is.sorts t)

-- the tasks, and the initial section, have the shape that soundness asks
abbrev pub ShapesAreLawful : Type 0
ShapesAreLawful = (p : ProgramBodies) (is : IsProgram p) → IsFounded p is
    → IsShaped (shape_of (parts_of p)) × (HasSection p → IsShaped (shape_of (section_alone p)))

-- the tables and the store of a solution cover each step that a task, or the initial section, can take
abbrev pub PairsCover : Type 0
PairsCover = (p : ProgramBodies) (is : IsProgram p) → IsFounded p is
    → (tables : List (List (Option State))) (store : Interferences) → IsPair p tables store
    → IsSolution (shape_of (parts_of p)) (tables_of p (lists_of tables) store)
    × (HasSection p → IsSolution (shape_of (section_alone p)) (section_tables p (lists_of tables)))

-- What the tables list of a program is an alarm of its report, at the place of its edge: the classes that the tasks, or
-- the initial section, do not exclude, and the races of two tasks.
pub record AreAlarms (p : ProgramBodies) (tables : ℕ → NodeTable State) (store : Interferences) : Type 0 where
  pub classes : (e : Copy (parts_of p)) (class : Class) (place : Place)
      → (let t = tables_of p tables store in t.listed e class) → place_at e.edge.op ≡ Some place
      → IsAlarm p tables (record { place = place; class = class })
  pub section : HasSection p → (e : Copy (section_alone p)) (class : Class) (place : Place)
      → (let t = section_tables p tables in t.listed e class) → place_at e.edge.op ≡ Some place
      → IsAlarm p tables (record { place = place; class = class })
  pub races : (e f : Copy (parts_of p)) → IsRaceListed (shape_of (parts_of p)) (tables_of p tables store) e f
      → (place : Place) → place_at e.edge.op ≡ Some place
      → IsAlarm p tables (record { place = place; class = Race })

abbrev pub ListedAreAlarms : Type 0
ListedAreAlarms = (p : ProgramBodies) (is : IsProgram p) → IsFounded p is → (tables : ℕ → NodeTable State)
    (store : Interferences) → AreAlarms p tables store

-- ## Where the tasks begin

-- no temporary holds anything
abbrev pub no_temps : Temps
no_temps t = nothing

-- Where there is no initial section, the entry states of the tasks hold what memory holds before anything has run.
abbrev pub TasksEnter : Type 0
TasksEnter = (p : ProgramBodies) (is : IsProgram p) → IsFounded p is → (tables : List (List (Option State)))
    (store : Interferences) → IsPair p tables store → (HasSection p → ⊥) → (memory : ℕ → Content Value)
    → IsStartMemory p.laid memory
    → IsEntered (shape_of (parts_of p)) (tables_of p (lists_of tables) store) memory (λ i. no_temps)

-- The entry states of the tasks hold what the initial section leaves; or it does not end, and tables that hold nothing
-- stand for those of the tasks, which never begin: they are a solution, and list nothing.
pub data IsHandedOver (p : ProgramBodies) (tables : ℕ → NodeTable State) (store : Interferences)
    (memory : ℕ → Content Value) (main_temps : Temps) (temps : TaskOf p.tasks → Temps) : Type 0 where
  by_end : IsHandover (shape_of (parts_of p)) (section_of (parts_of p) p.tasks) (tables_of p tables store)
      (section_tables p tables) memory main_temps temps → IsHandedOver p tables store memory main_temps temps
  by_nothing : IsHandover (shape_of (parts_of p)) (section_of (parts_of p) p.tasks) (nothing_of p)
      (section_tables p tables) memory main_temps temps → IsHandedOver p tables store memory main_temps temps

-- tables that hold nothing are a solution, and list nothing
pub record HoldsNothing (p : ProgramBodies) : Type 0 where
  pub solution : IsSolution (shape_of (parts_of p)) (nothing_of p)
  pub classes : (e : Copy (parts_of p)) (class : Class) → (let t = nothing_of p in t.listed e class) → ⊥
  pub races : (e f : Copy (parts_of p)) → IsRaceListed (shape_of (parts_of p)) (nothing_of p) e f → ⊥

-- The entry state of the initial section holds what memory holds at first, and those of the tasks what it leaves.
abbrev pub SectionsHandOver : Type 0
SectionsHandOver = (p : ProgramBodies) (is : IsProgram p) → IsFounded p is → (tables : List (List (Option State)))
    (store : Interferences) → IsPair p tables store → HasSection p → (memory : ℕ → Content Value)
    → IsStartMemory p.laid memory
    → IsEntered (shape_of (section_alone p)) (section_tables p (lists_of tables)) memory (λ i. no_temps)
    × ((main_temps : Temps) (temps : TaskOf p.tasks → Temps)
    → IsHandedOver p (lists_of tables) store memory main_temps temps)

-- ## Operations

-- the operations of a body mean what the rows say
abbrev pub OperationsMean : Type 0
OperationsMean = (p : ProgramBodies) (is : IsProgram p) (t : ℕ) → t < length p.bodies → IsGraphOf p t
    → AreRegular p t (is.sorts t) → HaveMeanings p t (is.sorts t)
