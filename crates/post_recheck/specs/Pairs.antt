-- What is given to a check.
use Rattle.std.specs.Prelude.{◌≡◌, ℕ, ◌<◌, List, length, map, get_or, Option, None, IfSome}
use Rattle.std.specs.declared.vec.Vec.{Vec}
use Rattle.interfere_set.specs.Stores.{Interferences}
use Rattle.shared_programs.specs.transfer_rows.StateForms.{State}
use Rattle.shared_programs.specs.program_equations.Programs.{ProgramBodies, body_at}
use Rattle.shared_programs.specs.program_equations.Systems.{FitsBody, FitsProgram}
use Rattle.shared_programs.specs.program_equations.Solutions.{table_at}

-- tables of states, those of the tasks by their numbers, then that of the initial section; and a store
pub record Pair : Type 0 where
  pub tables : List (List (Option State))
  pub store : Interferences

-- the states of each table
abbrev pub lists_of : {A : Type 0} → List (Vec (Option State) A) → List (List (Option State))
lists_of tables = map (λ table. table.items) tables

-- these tables and the store
abbrev pub pair_of : {A : Type 0} → List (Vec (Option State) A) → Interferences → Pair
pair_of tables store = record { tables = lists_of tables; store = store }

-- each body has a table, with a state or none for each of its nodes, which fits there; and the store fits
pub record FitsPair (p : ProgramBodies) (pair : Pair) : Type 0 where
  pub count : length pair.tables ≡ length p.bodies
  pub nodes : (t : ℕ) → t < length p.bodies
      → (let b = body_at p t in length (table_at pair.tables t) ≡ length b.nodes)
  pub states : (t n : ℕ) → t < length p.bodies → n < length (table_at pair.tables t)
      → IfSome (get_or (table_at pair.tables t) n None) (FitsBody (body_at p t) n)
  pub fits : FitsProgram p pair.store
