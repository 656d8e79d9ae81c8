-- What the report of a least solution is, for a program and its facts.
use Rattle.std.specs.Prelude.{◌≡◌, List, Option}
use Rattle.std.proofs.Common.{sym, subst}
use Rattle.tm_terms.specs.declared.alarms.Alarm.{Alarm}
use Rattle.interfere_set.specs.Stores.{Interferences}
use Rattle.store_limits.specs.mutex_configs.declared.programs.Program.{Program}
use Rattle.store_limits.specs.transfer_rows.StateForms.{State}
use Rattle.store_limits.specs.program_equations.Programs.{IsProgram}
use Rattle.store_limits.specs.program_equations.Solutions.{tables_of}
use Rattle.thread_pass.specs.program_systems.Analysable.{IsAnalysable}
use Rattle.thread_pass.specs.program_systems.ReadPrograms.{ReadProgram, program_of}
use Rattle.thread_pass.specs.program_systems.ProgramFacts.{AllFacts, AreProgramFacts, read_with, program_with}
use Rattle.thread_pass.proofs.low.program_systems.Bodies.{is_program}
use Rattle.program_reports.specs.post_recheck.Pairs.{Pair, FitsPair}
use Rattle.program_reports.specs.Reports.{IsReport}
use Rattle.program_solutions.specs.LeastReports.{IsLeastPair, IsLeastReport}

module _ (r : ReadProgram) (program : Program) (facts : AllFacts) (analysable : IsAnalysable program)
    (are-facts : AreProgramFacts program facts) (same : r ≡ read_with program facts) where
  pub is_read : IsProgram (program_of r)
  is_read = subst (λ x. IsProgram (program_of x)) (sym same) (is_program program facts analysable are-facts)

  -- ## The report

  module _ (found : Pair) (is-least : IsLeastPair (program_of r) found) (tables : List (List (Option State)))
      (tables-are : tables ≡ found.tables) where
    pub judged_fits : (store : Interferences) → store ≡ found.store
        → FitsPair (program_with program facts) (record { tables = tables; store = store })
    judged_fits store store-is =
        subst (λ x. FitsPair (program_of x) (record { tables = tables; store = store })) same
        (subst (λ s. FitsPair (program_of r) (record { tables = tables; store = s })) (sym store-is)
        (subst (λ ts. FitsPair (program_of r) (record { tables = ts; store = found.store })) (sym tables-are)
        is-least.fits))

    pub report_least : (report : List Alarm) → IsReport (program_with program facts) (tables_of tables) report
        → IsLeastReport (program_of r) report
    report_least report h = record {
      pair = found;
      least = is-least;
      exact = subst (λ ts. IsReport (program_of r) (tables_of ts) report) tables-are
          (subst (λ x. IsReport (program_of x) (tables_of tables) report) (sym same) h);
    }
