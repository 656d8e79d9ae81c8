-- A program has one report.
use Rattle.std.proofs.Common.{◌≡◌}
use Rattle.std.specs.Prelude.{List}
use Rattle.tm_terms.specs.declared.alarms.Alarm.{Alarm}
use Rattle.store_limits.specs.program_equations.Programs.{ProgramBodies, IsProgram}
use Rattle.store_limits.specs.program_equations.Solutions.{tables_of}
use Rattle.program_reports.proofs.One.{one_report}
use Rattle.program_solutions.specs.LeastReports.{IsLeastReport}
use Rattle.program_solutions.proofs.Agreeing.{tables_agree}

pub one_least_report : (p : ProgramBodies) (one other : List Alarm) → IsProgram p → IsLeastReport p one → IsLeastReport p other → one ≡ other
one_least_report p one other is h k =
    let first = h.pair in
    let second = k.pair in
    one_report p is (tables_of first.tables) (tables_of second.tables)
    (λ t n lt within. tables_agree p is first second h.least k.least t n lt within) one other h.exact k.exact
