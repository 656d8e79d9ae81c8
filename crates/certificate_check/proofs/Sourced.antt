-- The program of a source on a scale, as the laws of soundness read it, and what its reports list.
use Rattle.std.proofs.Common.{◌≡◌, ◌∙◌, sym, ap, subst}
use Rattle.std.specs.Prelude.{ℕ, ◌≤◌, ◌^◌, List, length, Option}
use Rattle.tm_terms.specs.declared.alarms.Alarm.{Alarm}
use Rattle.mutex_configs.specs.tm_laid.declared.scales.Scale.{Scale}
use Rattle.mutex_configs.specs.tm_laid.Layouts.{LaidTree}
use Rattle.program_reports.specs.program_equations.Programs.{ProgramBodies}
use Rattle.program_reports.specs.program_equations.Readings.{read_layout}
use Rattle.program_reports.specs.program_equations.Solutions.{tables_of, IsPair}
use Rattle.program_reports.specs.Reports.{IsReport}
use Rattle.program_reports.specs.transfer_rows.StateForms.{State}
use Rattle.program_reports.specs.interfere_set.Stores.{Interferences}
use Rattle.source_programs.specs.Sources.{IsAcceptedOn}
use Rattle.source_programs.proofs.Accepted.{accepted_is_laid, accepted_is_program}
use Rattle.sound_core.specs.Sound.{IsProgramFrom}
use Rattle.sound_core.specs.Soundness.{ListsAll}
use Rattle.sound_core.proofs.Alarmed.{errors_alarm}

module _ (scale : Scale) (given bytes : List ℕ) (p : ProgramBodies) (a : IsAcceptedOn scale given bytes p) where
  pub comes_from : IsProgramFrom a.laid p
  comes_from = record {
    file = accepted_is_laid scale given bytes p a;
    graphs = a.graphed.graphs;
    configured = a.graphed.configured;
    marks = a.thresholds;
    scale = scale;
    are = a.prepared.0;
    answer = a.prepared.1;
    is = a.is;
  }

  -- two layouts that a program reads alike have as many objects
  pub few_objects : (other : LaidTree) → p.laid ≡ read_layout other → length other.objects ≤ 2 ^ 32
      → length a.laid.objects ≤ 2 ^ 32
  few_objects other f few =
      let same = a.is.laid in
      subst (λ (n : ℕ). n ≤ 2 ^ 32) (ap (λ (l : LaidTree). length l.objects) (sym f ∙ same)) few

  -- a report of a solution lists each error that occurs in a run
  pub lists_all : length a.laid.objects ≤ 2 ^ 32 → (tables : List (List (Option State))) (store : Interferences)
      → IsPair p tables store → (report : List Alarm) → IsReport p (tables_of tables) report → ListsAll a.laid report
  lists_all few tables store pair report is class place occurs =
      (is.exact (record { place = place; class = class })).1
      (errors_alarm a.laid p comes_from (accepted_is_program scale given bytes p a) few tables store pair class place
      occurs)
