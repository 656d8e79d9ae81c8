-- What passes keep of slots, from which the next pass of their task goes on.
use Rattle.std.specs.Prelude.{ℕ, List, get_or, Option, Some, None}
use Rattle.program_equality.specs.transfer_rows.StateForms.{State}
use Rattle.interfere_set.specs.Stores.{Interferences, IsStoreBelow}
use Rattle.body_slots.specs.Slots.{Slots, AreSlotsOf}
use Rattle.body_slots.specs.Rows.{Stand}
use Rattle.body_slots.specs.Starts.{AreLeastValues, IsStartOf}
use Rattle.program_equality.specs.task_equations.Bodies.{Body}
use Rattle.program_equality.specs.program_equations.Programs.{ProgramBodies, body_at}
use Rattle.program_equality.specs.program_equations.Systems.{FitsProgram, task_entry, least_section}

-- the slots of the bodies of a program, and what stood at the variables of one of them
pub record StartOf : Type 0 where
  pub slots : List (Option Slots)
  pub values : List (Option Stand)

-- the body has these slots, and this stands at its variables over the store
abbrev pub AreBodyValues : Body → Option State → Interferences → Option Slots → List (Option Stand) → Type 0
AreBodyValues b entry store None values = ⊥
AreBodyValues b entry store (Some s) values = AreSlotsOf b s × AreLeastValues b entry store s values

-- the body has these slots, and this stood at its variables over some store that lies below this one
abbrev pub IsBodyStart : Body → Option State → Interferences → Option Slots → List (Option Stand) → Type 0
IsBodyStart b entry store None values = ⊥
IsBodyStart b entry store (Some s) values = AreSlotsOf b s × IsStartOf b entry store s values

-- this stands at the variables of the task over the store, after the initial section
abbrev pub AreTaskValues : ProgramBodies → ℕ → Interferences → StartOf → Type 0
AreTaskValues p t store start =
    AreBodyValues (body_at p t) (task_entry p (least_section p) t) store (get_or start.slots t None) start.values

-- this stood at the variables of the task over some store that lies below this one
pub record IsTaskStart (p : ProgramBodies) (t : ℕ) (store : Interferences) (start : StartOf) : Type 0 where
  pub before : Interferences
  pub before_fits : FitsProgram p before
  pub before_below : IsStoreBelow before store
  pub values : AreTaskValues p t before start
