-- The equations of the bodies of a program, over what the tasks share and after the initial section.
use Rattle.std.specs.Prelude.{ℕ, zero, suc, nat_lt, ℤ, Bool, cond, List, [], ◌∷◌, ◌++◌, length, map}
use Rattle.std.specs.Prelude.{Option, Some}
use Rattle.region_cells.specs.tm_lattice.declared.lattices.Lattice as lattice
use Rattle.edge_filters.specs.pointer_dom.Values.{joined_values, rounded_values}
use Rattle.edge_filters.specs.cell_env.States.{joined_state, rounded_state}
use Rattle.edge_filters.specs.interfere_set.Stores.{Interferences, IsStore, IsStoreBelow, joined_store, rounded_store}
use Rattle.edge_filters.specs.interfere_set.Stores.{no_interference}
use Rattle.edge_filters.specs.interfere_set.laws.StoreLaws.{HasNoInterference}
use Rattle.edge_filters.specs.transfer_rows.StateForms.{State, IsStateForm, IsStateUnder}
use Rattle.task_equations.specs.state_fits.Fits.{FitsStore}
use Rattle.task_equations.specs.table_covers.Systems.{System}
use Rattle.task_equations.specs.table_covers.Solutions.{NodeTable, at, least_of, IsNodewiseBelow, IsSolution}
use Rattle.task_equations.specs.table_covers.Solutions.{IsLeastSolution}
use Rattle.task_equations.specs.table_covers.Passes.{added_below}
use Rattle.task_equations.specs.Bodies.{Body, copy_at}
use Rattle.task_equations.specs.Equations.{equations_of, link_of, added_along}
pub use Rattle.task_equations.specs.Premises.{FitsBody}
use Rattle.program_equations.specs.Programs.{ProgramBodies, body_at, HasSection}
use Rattle.program_equations.specs.Entries.{first_state, ended, later_state}

-- ## Lattices

-- states, compared entry by entry
abbrev pub states : lattice.Ghosts State (List ℤ)
states = record {
  is_value = IsStateForm;
  is_marks = λ m. Unit {0};
  leq = IsStateUnder;
  joined = joined_state joined_values;
  rounded = λ marks. rounded_state (rounded_values marks);
  nothing = λ s. ⊥;
}

-- what the tasks share
abbrev pub stores : lattice.Ghosts Interferences (List ℤ)
stores = record {
  is_value = IsStore;
  is_marks = λ m. Unit {0};
  leq = IsStoreBelow;
  joined = joined_store;
  rounded = rounded_store;
  nothing = HasNoInterference;
}

-- ## What fits

abbrev pub FitsProgram : ProgramBodies → Interferences → Type 0
FitsProgram p store = FitsStore p.laid p.tasks store

-- ## Systems

-- the initial section begins before anything has run, and hears nothing
abbrev pub section_system : ProgramBodies → System State
section_system p = equations_of (body_at p p.tasks) (Some (first_state p.laid p.tasks)) no_interference

-- a task begins where the initial section has ended, of which this is a table; or before anything has run
abbrev pub entry_after : Bool → ProgramBodies → List (Option State) → ℕ → Option State
entry_after has p section t = cond has (later_state p.laid t (ended (body_at p p.tasks) (at section)))
    (Some (first_state p.laid t))

abbrev pub task_entry : ProgramBodies → List (Option State) → ℕ → Option State
task_entry p section t = entry_after (nat_lt p.tasks (length p.bodies)) p section t

abbrev pub task_system : ProgramBodies → List (Option State) → Interferences → ℕ → System State
task_system p section store t = equations_of (body_at p t) (task_entry p section t) store

-- ## Least tables

-- the states of so many nodes, in order
abbrev pub listed : ℕ → NodeTable State → List (Option State)
listed zero table = []
listed (suc n) table = listed n table ++ (table n ∷ [])

-- the table of the initial section; none where there is no initial section
abbrev pub least_section : ProgramBodies → List (Option State)
least_section p = cond (nat_lt p.tasks (length p.bodies))
    (listed (length (body_at p p.tasks).nodes) (least_of states (FitsBody (body_at p p.tasks)) (section_system p))) []

-- the least table of a task over a store, after the initial section
unfoldable pub least_local : ProgramBodies → ℕ → Interferences → NodeTable State
least_local p t store =
    least_of states (FitsBody (body_at p t)) (task_system p (least_section p) store t)

-- the join of what the edges of a task contribute at a table
abbrev pub added_at : ProgramBodies → ℕ → NodeTable State → Interferences
added_at p t table = let b = body_at p t in
    added_below (map link_of b.copies) no_interference (λ k s. added_along b (copy_at b k) s) joined_store
    (length (map link_of b.copies)) table

-- what a task adds to a store: what its edges contribute at its least table
unfoldable pub pass_of : ProgramBodies → ℕ → Interferences → Interferences
pass_of p t store = added_at p t (least_local p t store)

-- ## The initial section

-- the table solves the equations of the initial section, where there is one
abbrev pub IsSection : ProgramBodies → List (Option State) → Type 0
IsSection p section = HasSection p
    → IsSolution states (FitsBody (body_at p p.tasks)) (section_system p) (at section)

-- the table is the least solution of the equations of the initial section, where there is one
abbrev pub IsLeastSection : ProgramBodies → List (Option State) → Type 0
IsLeastSection p section = HasSection p
    → IsLeastSolution states (FitsBody (body_at p p.tasks)) (section_system p) (at section)

-- the one table of the initial section lies below the other
abbrev pub IsSectionBelow : ProgramBodies → List (Option State) → List (Option State) → Type 0
IsSectionBelow p one other = HasSection p
    → IsNodewiseBelow states (FitsBody (body_at p p.tasks)) (section_system p) (at one) (at other)
