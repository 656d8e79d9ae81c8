-- What an analysis writes into a store and hears from it, in terms of members.
use Rattle.std.specs.Prelude.{◌≡◌, ◌⊎◌, ◌≤◌, ℕ, Bool, false, Some}
use Rattle.program_shape.specs.concrete_values.declared.values.Value.{Value}
use Rattle.program_reports.specs.pointer_dom.Values.{IsValueIn}
use Rattle.program_reports.specs.interfere_set.Stores.{Interferences, reader_of, visible, handed}
use Rattle.program_reports.specs.transfer_rows.StateForms.{State}
use Rattle.program_reports.specs.transfer_rows.Reports.{weak_of, sync_of}
use Rattle.program_reports.specs.table_covers.Solutions.{NodeTable}
use Rattle.program_reports.specs.program_equations.Programs.{ProgramBodies}
use Rattle.program_shape.specs.tm_soundness.Numbered.{TaskOf}
use Rattle.program_shape.specs.Shape.{Copy, Has, from_of}
use Rattle.sound_tables.specs.Programs.{part_of}
use Rattle.sound_tables.specs.Memberships.{scalar_as, state_at, around_copy, action_copy}

abbrev pub Apart : ℕ → ℕ → Type 0
Apart l h = (m : ℕ) → Has l m → Has h m → ⊥

-- What is written goes into weak and sync entries; and what the other tasks have there is seen and handed over.
pub record IsHeard (p : ProgramBodies) (n : ℕ) (number : TaskOf n → ℕ) (rank : ℕ → ℕ)
    (tables : ℕ → NodeTable State) (store : Interferences) (weak sync : TaskOf n → ℕ → ℕ → Value
    → Type 0) : Type 0 where
  pub weak_in : (e : Copy (part_of p n number rank)) (s : State) (x : ℕ) (v : Value)
      → state_at p n number rank tables (from_of (part_of p n number rank) e) ≡ Some s
      → IsValueIn (weak_of (around_copy p n number rank tables e) (action_copy p n number rank tables e) s x)
      (scalar_as v) → weak e.actor e.held x v
  pub sync_in : (e : Copy (part_of p n number rank)) (s : State) (m x : ℕ) (v : Value)
      → state_at p n number rank tables (from_of (part_of p n number rank) e) ≡ Some s
      → IsValueIn (sync_of (around_copy p n number rank tables e) (action_copy p n number rank tables e) s m x)
      (scalar_as v) → sync e.actor m x v
  pub weak_out : (i j : TaskOf n) (held found x l : ℕ) (fresh : Bool) (v : Value) → (j ≡ i → ⊥) → Apart l held
      → (rank (number i) ≤ rank (number j)) ⊎ ((fresh ≡ false) × Apart l found) → weak j l x v
      → IsValueIn (visible (reader_of (number i) held found p.priorities) fresh x store) (scalar_as v)
  pub sync_out : (i j : TaskOf n) (m x : ℕ) (v : Value) → (j ≡ i → ⊥) → sync j m x v
      → IsValueIn (handed (number i) m x store) (scalar_as v)
