-- The solutions of a program, as least tables of several tasks over one store are: the parts of the whole system, and
-- what a pair of tables and a store does not cover.
use Rattle.std.specs.Prelude.{◌≡◌, ℕ, suc, ◌<◌, nat_lt, ℤ, Bool, cond, List, [], length, map, get_or, is_some, Option}
use Rattle.region_cells.specs.tm_lattice.declared.passers.Passer as passer
use Rattle.edge_filters.specs.interfere_set.Stores.{Interferences, no_interference}
use Rattle.edge_filters.specs.transfer_rows.StateForms.{State}
use Rattle.task_equations.specs.value_heights.Heights.{value_height}
use Rattle.edge_filters.specs.cell_env.States.{state_height}
use Rattle.task_equations.specs.table_covers.declared.links.Link.{Link}
use Rattle.task_equations.specs.table_covers.declared.covers.Uncovered.{Uncovered}
use Rattle.task_equations.specs.table_covers.declared.covers.Uncovered.TheVariants.{Entry as the_entry}
use Rattle.task_equations.specs.table_covers.declared.covers.Uncovered.TheVariants.{Edge as the_edge}
use Rattle.task_equations.specs.table_covers.Systems.{System}
use Rattle.task_equations.specs.table_covers.Solutions.{NodeTable, at, IsSolution, IsFirstUncovered}
use Rattle.task_equations.specs.table_covers.Whole as whole
use Rattle.task_equations.specs.state_fits.Tops.{top_state}
use Rattle.task_equations.specs.Bodies.{Body, node_at, copy_at, live_at}
use Rattle.task_equations.specs.Equations.{after_along, added_along, link_of, cells_at, rounded_at}
use Rattle.program_equations.specs.Programs.{ProgramBodies, body_at, IsProgram}
use Rattle.program_equations.specs.Systems.{states, stores, FitsBody, FitsProgram, section_system, task_entry}
use Rattle.program_equations.specs.Systems.{task_system, pass_of, IsSection, IsSectionBelow}

-- ## The parts of the whole system

-- what is asked of programs whose tasks pass over one store
abbrev pub passing : passer.Ghosts ProgramBodies Interferences (List ℤ)
passing = record {
  is_program = IsProgram;
  task_count = λ p. p.tasks;
  marks_of = λ p. p.marks;
  least = λ p. no_interference;
  passed = pass_of;
  fits = FitsProgram;
}

module _ (p : ProgramBodies) where
  abbrev pub node_count : ℕ → ℕ
  node_count t = (let b = body_at p t in length b.nodes)

  abbrev pub links_in : ℕ → List Link
  links_in t = (let b = body_at p t in map link_of b.copies)

  abbrev pub after_in : ℕ → Interferences → ℕ → State → Option State
  after_in t store k s = (let b = body_at p t in after_along b store (copy_at b k) s)

  abbrev pub entry_in : List (Option State) → ℕ → Option State
  entry_in section t = task_entry p section t

  abbrev pub outward_in : ℕ → ℕ → State → State
  outward_in t n s = (let b = body_at p t in rounded_at b.marks (cells_at b n) s)

  abbrev pub heads_in : ℕ → ℕ → Bool
  heads_in t n = is_some (cells_at (body_at p t) n)

  abbrev pub suits_in : ℕ → ℕ → State → Type 0
  suits_in t n s = FitsBody (body_at p t) n s

  abbrev pub height_of : State → ℕ
  height_of s = state_height value_height s

  abbrev pub limit_in : ℕ → ℕ → ℕ
  limit_in t n = (let b = body_at p t in let q = node_at b n in
      state_height value_height (top_state b.laid (live_at b q.place)))

  abbrev pub added_in : ℕ → Interferences → ℕ → State → Interferences
  added_in t store k s = (let b = body_at p t in added_along b (copy_at b k) s)

  -- the contributions of all tasks, joined and rounded, lie below the store
  abbrev pub IsStoreCovered : (ℕ → NodeTable State) → Interferences → Type 0
  IsStoreCovered tables store = whole.IsStoreCovered states node_count links_in after_in entry_in outward_in heads_in
      suits_in height_of limit_in added_in stores passing p (IsSectionBelow p) (IsSection p) tables store

  -- the equations raise neither the tables, of the tasks and of the initial section, nor the store
  abbrev pub IsWholeSolution : List (Option State) → (ℕ → NodeTable State) → Interferences → Type 0
  IsWholeSolution section tables store = whole.IsWholeSolution states node_count links_in after_in entry_in outward_in
      heads_in suits_in height_of limit_in added_in stores passing p (IsSectionBelow p) (IsSection p) section tables
      store

  -- a solution that lies below every solution
  abbrev pub IsWholeLeast : List (Option State) → (ℕ → NodeTable State) → Interferences → Type 0
  IsWholeLeast section tables store = whole.IsWholeLeast states node_count links_in after_in entry_in outward_in
      heads_in suits_in height_of limit_in added_in stores passing p (IsSectionBelow p) (IsSection p) section tables
      store

  abbrev pub IsWholeLawful : List (Option State) → (ℕ → Interferences → NodeTable State) → Type 0
  IsWholeLawful section tables = whole.IsWholeLawful states node_count links_in after_in entry_in outward_in heads_in
      suits_in height_of limit_in added_in stores passing p (IsSectionBelow p) (IsSection p) section tables

-- ## Tables as lists

-- those of the tasks by their numbers, then that of the initial section, where there is one
abbrev pub table_at : List (List (Option State)) → ℕ → List (Option State)
table_at tables t = get_or tables t []

abbrev pub tables_of : List (List (Option State)) → ℕ → NodeTable State
tables_of tables t = at (table_at tables t)

module _ (p : ProgramBodies) (tables : List (List (Option State))) (store : Interferences) where
  -- the equations of a task, or of the initial section
  abbrev pub system_at : ℕ → System State
  system_at t = cond (nat_lt t p.tasks) (task_system p (table_at tables p.tasks) store t) (section_system p)

  abbrev pub IsSolvedAt : ℕ → Type 0
  IsSolvedAt t = IsSolution states (FitsBody (body_at p t)) (system_at t) (tables_of tables t)

  -- the tables and the store are a solution of the program
  pub record IsPair : Type 0 where
    pub count : length tables ≡ length p.bodies
    pub solves : IsWholeSolution p (table_at tables p.tasks) (tables_of tables) store

  -- the number of an edge that is not covered: edges count from 1, and 0 stands for the entry
  abbrev pub edge_number : Body → Uncovered → ℕ
  edge_number b the_entry = 0
  edge_number b (the_edge k) = suc ((copy_at b k).edge)

  -- the first edge that is not covered: by the number of its body, then by its own
  pub record IsUncoveredAt (t edge : ℕ) : Type 0 where
    pub within : t < length p.bodies
    pub earlier : (u : ℕ) → u < t → IsSolvedAt u
    pub first : Uncovered
    pub is : IsFirstUncovered states (FitsBody (body_at p t)) (system_at t) (tables_of tables t) first
    pub number : edge ≡ edge_number (body_at p t) first

  -- every edge is covered, and the store is not
  pub record IsUncoveredStore : Type 0 where
    pub bodies : (t : ℕ) → t < length p.bodies → IsSolvedAt t
    pub uncovered : IsStoreCovered p (tables_of tables) store → ⊥
