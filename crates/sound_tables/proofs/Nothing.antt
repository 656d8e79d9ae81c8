-- Tables that hold nothing: they are a solution, and stand for those of tasks that never begin.
use Rattle.std.specs.Prelude.{ℕ, Option, Some, None}
use Rattle.program_shape.specs.concrete_values.declared.values.Value.{Value}
use Rattle.program_shape.specs.flow_graph.Operations.{Temps}
use Rattle.program_reports.specs.transfer_rows.StateForms.{State}
use Rattle.program_reports.specs.table_covers.Solutions.{NodeTable}
use Rattle.program_reports.specs.program_equations.Programs.{ProgramBodies}
use Rattle.program_shape.specs.tm_soundness.Numbered.{TaskOf}
use Rattle.program_shape.specs.tm_soundness.Shape.{Shape, Content}
use Rattle.program_shape.specs.tm_soundness.Tables.{Tables}
use Rattle.program_shape.specs.tm_soundness.Covers as covers
use Rattle.program_shape.specs.tm_soundness.Section.{Section, alone, IsHandover}
use Rattle.program_shape.specs.Shape.{Node, shape_of}
use Rattle.sound_tables.specs.Programs.{part_of}
use Rattle.sound_tables.specs.Memberships.{HasState, found_at, state_at, tables_with}

abbrev pub no_table : ℕ → NodeTable State
no_table t n = None

pub found_none : (o : Option ℕ) (part : State → Type 0) → HasState (found_at (λ k. None) o) part → ⊥
found_none None part h = let e = h.is in cc
found_none (Some k) part h = let e = h.is in cc

module _ (p : ProgramBodies) (n : ℕ) (number : TaskOf n → ℕ) (rank : ℕ → ℕ)
    (weak sync : TaskOf n → ℕ → ℕ → Value → Type 0) where
  abbrev P : Shape
  P = shape_of (part_of p n number rank)

  abbrev T : Tables P
  T = tables_with p n number rank no_table weak sync

  none : (q : Node (part_of p n number rank)) (part : State → Type 0)
      → HasState (state_at p n number rank no_table q) part → ⊥
  none q part h = found_none _ part h

  pub nothing_solves : covers.IsSolution P T
  nothing_solves = record {
    calcs = λ e f g o inside own does. absurd (none (P.from e) _ inside);
    loads = λ e f a t c v o inside access found. absurd (none (P.from e) _ inside);
    loads_any = λ e f g a c o inside own access does. absurd (none (P.from e) _ inside);
    stores = λ e f a v c o inside access. absurd (none (P.from e) _ inside);
    clears = λ e f o inside. absurd (none (P.from e) _ inside);
    locks = λ e f m o inside free. absurd (none (P.from e) _ inside);
    unlocks = λ e f m o inside mine. absurd (none (P.from e) _ inside);
    waits = λ e f o inside. absurd (none (P.from e) _ inside);
    finds_held = λ e f m t o inside. absurd (none (P.from e) _ inside);
    finds_free = λ e f m t o inside free. absurd (none (P.from e) _ inside);
    listed_calc = λ e f class o inside k. absurd (none (P.from e) _ inside);
    listed_lock = λ e f m o inside mine. absurd (none (P.from e) _ inside);
    listed_unlock = λ e f m o inside foreign. absurd (none (P.from e) _ inside);
    load_target = λ e f a t c o inside access. absurd (none (P.from e) _ inside);
    load_any_target = λ e f a c o inside access. absurd (none (P.from e) _ inside);
    store_target = λ e f a v c o inside access. absurd (none (P.from e) _ inside);
  }

  module _ (X : Section P) (U : Tables (alone P X)) (memory : ℕ → Content Value) (main_temps : Temps)
      (temps : TaskOf n → Temps) (never : (q : X.Node) (f : Temps) → X.ends q → U.inside q f → ⊥) where
    pub nothing_handed : IsHandover P X T U memory main_temps temps
    nothing_handed = record {
      inside = λ i q f ends h. absurd (never q f ends h);
      shared = λ i q f x v ends h shared own. absurd (never q f ends h);
      local = λ i q f c v ends h own reads. absurd (never q f ends h);
      fresh = λ i x h. absurd (none (P.entry i) _ h);
      stored = λ i x h. absurd (none (P.entry i) _ h);
      copies = λ i t x h. absurd (none (P.entry i) _ h);
    }
