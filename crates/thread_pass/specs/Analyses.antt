-- Programs whose initial section is analysed.
use Rattle.std.specs.Prelude.{◌≡◌, ℕ, ◌<◌, List, [], length, get_or, Option, None, IfSome}
use Rattle.program_equality.specs.transfer_rows.StateForms.{State}
use Rattle.interfere_set.specs.Stores.{Interferences, IsStoreBelow}
use Rattle.mutex_configs.specs.declared.programs.Program.{Program}
use Rattle.table_covers.specs.Solutions.{at, IsLeastSolution}
use Rattle.body_slots.specs.Slots.{Slots, AreSlotsOf}
use Rattle.program_equality.specs.program_equations.Programs.{ProgramBodies, body_at, HasSection}
use Rattle.program_equality.specs.program_equations.Systems.{states, FitsBody, FitsProgram, section_system, task_system}
use Rattle.program_equality.specs.program_equations.Systems.{task_entry}
use Rattle.program_equality.specs.program_equations.Systems.{least_section}
use Rattle.program_systems.specs.Analysable.{IsAnalysable}
use Rattle.program_systems.specs.ProgramFacts.{AllFacts, AreProgramFacts, program_with}

-- a state or none for each node of the initial section: its least table; and no table where there is no such section
pub record IsSectionTable (p : ProgramBodies) (section : List (Option State)) : Type 0 where
  pub none : (HasSection p → ⊥) → section ≡ []
  pub count : HasSection p → (let b = body_at p p.tasks in length section ≡ length b.nodes)
  pub least : HasSection p → IsLeastSolution states (FitsBody (body_at p p.tasks)) (section_system p) (at section)

-- a state or none for each node of a task: its least table over a store, after the initial section
pub record IsLeastTable (p : ProgramBodies) (t : ℕ) (store : Interferences) (table : List (Option State)) : Type 0 where
  pub count : (let b = body_at p t in length table ≡ length b.nodes)
  pub least : IsLeastSolution states (FitsBody (body_at p t)) (task_system p (least_section p) store t) (at table)

-- a least table of a task over some store that lies below this one
pub record IsStartTable (p : ProgramBodies) (t : ℕ) (store : Interferences) (table : List (Option State)) : Type 0 where
  pub before : Interferences
  pub before_fits : FitsProgram p before
  pub before_below : IsStoreBelow before store
  pub before_least : IsLeastTable p t before table

-- for each body of a program its slots, or none
pub record AreProgramSlots (p : ProgramBodies) (slots : List (Option Slots)) : Type 0 where
  pub count : length slots ≡ length p.bodies
  pub each : (n : ℕ) → n < length slots → IfSome (get_or slots n None) (AreSlotsOf (body_at p n))

-- the facts of a program, the slots of its bodies, the least table of its initial section, and the states in which its
-- tasks begin
pub record IsAnalysis (program : Program) (all : AllFacts) (each : List (Option Slots))
    (table states : List (Option State)) : Type 0 where
  pub analysable : IsAnalysable program
  pub facts : AreProgramFacts program all
  pub slots : AreProgramSlots (program_with program all) each
  pub section : IsSectionTable (program_with program all) table
  pub count : (let p = program_with program all in length states ≡ p.tasks)
  pub entries : (t : ℕ) → t < length states → (let p = program_with program all in
      get_or states t None ≡ task_entry p (least_section p) t)
