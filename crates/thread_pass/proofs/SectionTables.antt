-- The table of an initial section.
use Rattle.std.specs.Prelude.{◌≡◌, ℕ, ◌<◌, ◌≤◌, List, [], length, Option, Some}
use Rattle.std.proofs.Common.{sym, ap, subst, ◌∙◌, arith}
use Rattle.interfere_set.specs.Stores.{Interferences, no_interference}
use Rattle.program_equality.specs.transfer_rows.StateForms.{State}
use Rattle.mutex_configs.specs.declared.programs.Program.{Program}
use Rattle.table_covers.specs.Solutions.{at, IsLeastSolution}
use Rattle.program_equality.specs.task_equations.Bodies.{Body}
use Rattle.program_equality.specs.task_equations.Equations.{equations_of}
use Rattle.program_equality.specs.program_equations.Programs.{ProgramBodies, body_at, HasSection}
use Rattle.program_equality.specs.program_equations.Entries.{first_state}
use Rattle.program_equality.specs.program_equations.Systems.{states, FitsBody, FitsProgram}
use Rattle.program_equality.specs.program_equations.laws.StoresFit.{nothing_fits}
use Rattle.program_equality.specs.program_equations.laws.TaskEntries.{first_fits}
use Rattle.program_systems.specs.Analysable.{IsAnalysable}
use Rattle.program_systems.specs.ProgramFacts.{AllFacts, program_with, AreProgramFacts}
use Rattle.program_systems.proofs.Bodies.{body_count, is_program}
use Rattle.thread_pass.specs.Analyses.{IsSectionTable}

module _ (program : Program) (facts : AllFacts) (analysable : IsAnalysable program)
    (are : AreProgramFacts program facts) where
  abbrev p : ProgramBodies
  p = program_with program facts

  pub in_bodies : (n : ℕ) → n ≡ p.tasks → n < length program.graphs.graphs.items → n < length p.bodies
  in_bodies n same lt = subst (λ k. n < k) (sym (body_count program facts analysable are)) lt

  pub has_section : p.tasks < length program.graphs.graphs.items → HasSection p
  has_section lt = subst (λ k. p.tasks < k) (sym (body_count program facts analysable are)) lt

  pub no_section : length program.graphs.graphs.items ≤ p.tasks → HasSection p → ⊥
  no_section none has = (let count = body_count program facts analysable are in omega (arith, none, has, count))

  pub empty_table : length program.graphs.graphs.items ≤ p.tasks → (table : List (Option State)) → table ≡ []
      → IsSectionTable p table
  empty_table none table e = record {
    none = λ nothing. e;
    count = λ has. absurd (no_section none has);
    least = λ has. absurd (no_section none has);
  }

  pub section_entry_fits : (n : ℕ) → n ≡ p.tasks → n < length program.graphs.graphs.items → (s : State)
      → s ≡ first_state p.laid p.tasks → FitsBody (body_at p n) 0 s
  section_entry_fits n same lt s e =
      subst (λ x. FitsBody (body_at p n) 0 x) (sym (e ∙ ap (first_state p.laid) (sym same)))
      (first_fits p (is_program program facts analysable are) n (in_bodies n same lt))

  pub nothing_fits_program : (store : Interferences) → store ≡ no_interference → FitsProgram p store
  nothing_fits_program store e = subst (FitsProgram p) (sym e) (nothing_fits p.laid p.tasks)

  -- what the equations of the section's body give
  pub section_table_is : (n : ℕ) (b : Body) (entry : Option State) (store : Interferences) (table : List (Option State))
      → n ≡ p.tasks → n < length program.graphs.graphs.items → b ≡ body_at p n
      → entry ≡ Some (first_state p.laid p.tasks) → store ≡ no_interference
      → length table ≡ length b.nodes
      → IsLeastSolution states (FitsBody b) (equations_of b entry store) (at table) → IsSectionTable p table
  section_table_is n b entry store table same lt body-is entry-is store-is count least =
      let b-is : b ≡ body_at p p.tasks = body-is ∙ ap (body_at p) same in
      record {
        none = λ nothing. absurd (nothing (subst (λ k. k < length p.bodies) same (in_bodies n same lt)));
        count = λ has. count ∙ ap (λ (x : Body). length x.nodes) b-is;
        least = λ has.
            subst (λ s. IsLeastSolution states (FitsBody (body_at p p.tasks))
            (equations_of (body_at p p.tasks) (Some (first_state p.laid p.tasks)) s) (at table)) store-is
            (subst (λ o. IsLeastSolution states (FitsBody (body_at p p.tasks))
            (equations_of (body_at p p.tasks) o store) (at table)) entry-is
            (subst (λ x. IsLeastSolution states (FitsBody x) (equations_of x entry store) (at table)) b-is least));
      }
