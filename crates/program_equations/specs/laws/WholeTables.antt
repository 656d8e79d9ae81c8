-- Tables that are least solutions, of the initial section and of each task after it, are the least solution of the
-- whole program where its least tables are.
use Rattle.std.specs.Prelude.{◌≡◌, ℕ, ◌<◌, List, length, Option}
use Rattle.std.proofs.Common.{sym, subst, ◌∙◌}
use Rattle.region_cells.specs.tm_lattice.Tables.{IsBelow}
use Rattle.edge_filters.specs.interfere_set.Stores.{Interferences}
use Rattle.edge_filters.specs.transfer_rows.StateForms.{State}
use Rattle.task_equations.specs.table_covers.Systems.{from_of}
use Rattle.task_equations.specs.table_covers.Solutions.{NodeTable, at, IsLeastSolution}
use Rattle.program_equations.specs.Programs.{ProgramBodies, body_at, IsProgram}
use Rattle.program_equations.specs.Systems.{states, FitsBody, FitsProgram, task_system, least_section, least_local}
use Rattle.program_equations.specs.Systems.{IsLeastSection}
use Rattle.program_equations.specs.Solutions.{links_in, IsStoreCovered, IsWholeSolution, IsWholeLeast}
use Rattle.program_equations.specs.laws.Lawful.{program_is_lawful}
use Rattle.program_equations.specs.laws.Sections.{section_is}
use Rattle.program_equations.specs.laws.Tables.{table_is_one}

module _ (p : ProgramBodies) (is : IsProgram p) (section : List (Option State)) (first : IsLeastSection p section)
    (store : Interferences) (tables : ℕ → NodeTable State)
    (least : (t : ℕ) → t < p.tasks
    → IsLeastSolution states (FitsBody (body_at p t)) (task_system p section store t) (tables t))
    (whole : IsWholeLeast p (least_section p) (λ t. least_local p t store) store) where
  fits : FitsProgram p store
  fits = whole.solves.fits

  same : (t : ℕ) → t < p.tasks → (n : ℕ) → n < (let b = body_at p t in length b.nodes)
      → tables t n ≡ least_local p t store n
  same t lt n within = table_is_one p is section first t lt store fits (tables t) (least t lt) n within

  leaves : (t e : ℕ) → t < p.tasks → e < length (links_in p t)
      → from_of (links_in p t) e < (let b = body_at p t in length b.nodes)
  leaves t e lt within =
      ((program_is_lawful p is).system t store (least_section p) lt fits (section_is p is)).from_node e within

  pub covered : IsStoreCovered p tables store
  covered = let c = whole.solves.covers in record {
    bound = c.bound;
    fits = c.fits;
    holds = λ t lt e s within stands.
        c.holds t lt e s within (sym (same t lt (from_of (links_in p t) e) (leaves t e lt within)) ∙ stands);
    rounding = c.rounding;
  }

  pub solves : IsWholeSolution p section tables store
  solves = record {
    begins = λ has. (first has).solves;
    fits = fits;
    locals = λ t lt. (least t lt).solves;
    covers = covered;
  }

  -- they are the least solution of the whole
  pub whole_is_one : IsWholeLeast p section tables store
  whole_is_one = record {
    solves = solves;
    precedes = λ other others s solution has. (first has).below (at other) (solution.begins has);
    tables_below = λ other others s solution t lt n within.
        subst (λ a. IsBelow states.leq a (others t n)) (sym (same t lt n within))
        (whole.tables_below other others s solution t lt n within);
    store_below = λ other others s solution. whole.store_below other others s solution;
  }
